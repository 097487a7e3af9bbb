-- `read`: enough bytes are a number, and of a type's numbers only a Bool's can be no value's.
use mathlib.Core.Path.{sym, ap, ◌∙◌}
use native.Mathlib.Omega.{arith}
use lib.ListN.{length}
use Rattle.std.proofs.lemmas.List.{length-take-le}
use Rattle.value.specs.Value.{kind_of, le_number}
use Rattle.value.specs.Ir.{type_of}
use Rattle.value.proofs.LowFirst.{size_small, padded, read_short, read-whole}
use Rattle.value.proofs.IrValue.read.Goals as goal

pub returns-then-from-count : goal.returns-then-from-count
returns-then-from-count c =
    let A = c.args in
    read_short (type_of A.ty) A.from.now c.size-count.ensures c.if-from-count.true

pub slice_bounds-copy_from_slice-end : goal.slice_bounds-copy_from_slice-end
slice_bounds-copy_from_slice-end c =
    let small = size_small (kind_of (type_of c.args.ty)) in
    sym (length-take-le _ _ (omega arith))

pub copy_from_slice-requires : goal.copy_from_slice-requires
copy_from_slice-requires c =
    let small = size_small (kind_of (type_of c.args.ty)) in
    length-take-le _ _ (omega arith) ∙ sym (length-take-le _ c.args.from.now c.if-from-count.false)

pub returns : goal.returns
returns c =
    let A = c.args in
    let n = c.size-count.result in
    let small = size_small (kind_of (type_of A.ty)) in
    let front = c.copy_from_slice.ensures.after in
    let whole = ap length front ∙ length-take-le n A.from.now c.if-from-count.false in
    let number = c.from_le_bytes-bits.ensures ∙ padded n c.copy_from_slice.new.self whole (omega arith) ∙ ap le_number front in
    read-whole (type_of A.ty) A.from.now c.size-count.ensures c.if-from-count.false (λ i. (c.type_inv.from i).fits) number c.tag.ensures c.from_bits.ensures c.ok_or.ensures.value
