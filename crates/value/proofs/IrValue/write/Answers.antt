-- `write`: the slice is too short, or its front becomes the lowest of the eight bytes, which are the value's.
use mathlib.Core.Path.{sym, ap, ◌∙◌}
use mathlib.Core.List.{List, ◌++◌}
use Prim.Native.Nat.{ℕ}
use native.Mathlib.Omega.{arith}
use lib.ListN.{length, take, drop}
use Rattle.std.proofs.lemmas.List.{length-take-le}
use Rattle.value.specs.Ir.{value_of}
use Rattle.value.proofs.LowFirst.{size_small, lowest, write_short, write-whole}
use Rattle.value.proofs.IrValue.write.Goals as goal

pub returns-then-to-count : goal.returns-then-to-count
returns-then-to-count c =
    let A = c.args in
    write_short (value_of A.self) A.to.now c.size-count.ensures c.if-to-count.true

pub slice_bounds-copy_from_slice-end-3 : goal.slice_bounds-copy_from_slice-end-3
slice_bounds-copy_from_slice-end-3 c =
    let small = size_small (value_of c.args.self).kind in
    sym (length-take-le _ c.to_le_bytes-bytes.result (omega (arith, ap length c.to_le_bytes-bytes.ensures)))

pub copy_from_slice-requires : goal.copy_from_slice-requires
copy_from_slice-requires c =
    let small = size_small (value_of c.args.self).kind in
    length-take-le _ _ c.if-to-count.false ∙ sym (length-take-le _ c.to_le_bytes-bytes.result (omega (arith, ap length c.to_le_bytes-bytes.ensures)))

pub returns : goal.returns
returns c =
    let A = c.args in
    let n = c.size-count.result in
    let small = size_small (value_of A.self).kind in
    let front = c.copy_from_slice.ensures.after ∙ ap (take n) c.to_le_bytes-bytes.ensures ∙ lowest n c.bits.result (omega arith) in
    write-whole (value_of A.self) A.to.now c.size-count.ensures c.if-to-count.false c.bits.ensures (ap (λ (bs : List ℕ). bs ++ drop n A.to.now) front)
