-- `instruction` meets its contract: the opcode chooses the row.
use Rattle.std.proofs.Common.{rules, arith, ◌≡◌, sym, ◌∙◌, Err}
use Rattle.image.specs.Image.{var, operand, instruction}
use Rattle.image.specs.Answer.{shape, walk}
use Rattle.loader.specs.Counts.{counts_of}
use Rattle.loader.proofs.Rows.{jump-row, switch_row, typed-row, constant_address_row, call-row, return-row, int_cmp_row, float_cmp_row, division_row, integer-row, float_row, two-row, offset-row, initialize_row, write-row, copy_row, drop-row, no_row, instruction_refused, beyond_7, beyond_21}
use Rattle.loader.proofs.fields.Fields.instruction.Goals as goal
use Rattle.loader.proofs.fields.Fields.instruction.Goals.{in-13-1, in_default+then-opcode-lt11}

pub returns-in_err-opcode : goal.returns-in_err-opcode
returns-in_err-opcode c =
    let a = c.args in
    let is : c.from_residual.result ≡ Err c.in_err-opcode.field-0.0 = search rules in
    is ∙ sym (instruction_refused a.self.image.now (counts_of a.self.counts) a.at (sym c.in_err-opcode.ensures))

pub returns-in-0 : goal.returns-in-0
returns-in-0 c =
    let a = c.args in
    c.label.ensures ∙ sym (jump-row a.self.image.now (counts_of a.self.counts) a.at (sym c.in_ok-opcode.ensures) c.in-0.is)

pub returns-in-1 : goal.returns-in-1
returns-in-1 c =
    let a = c.args in
    c.switch.ensures ∙ sym (switch_row a.self.image.now (counts_of a.self.counts) a.at (sym c.in_ok-opcode.ensures) c.in-1.is)

pub returns-in-2 : goal.returns-in-2
returns-in-2 c =
    let a = c.args in
    c.typed.ensures ∙ sym (typed-row a.self.image.now (counts_of a.self.counts) a.at (sym c.in_ok-opcode.ensures) c.in-2.is)

pub returns-in-3 : goal.returns-in-3
returns-in-3 c =
    let a = c.args in
    c.constant_address.ensures ∙ sym (constant_address_row a.self.image.now (counts_of a.self.counts) a.at (sym c.in_ok-opcode.ensures) c.in-3.is)

pub returns-in-4 : goal.returns-in-4
returns-in-4 c =
    let a = c.args in
    c.call.ensures ∙ sym (call-row a.self.image.now (counts_of a.self.counts) a.at (sym c.in_ok-opcode.ensures) c.in-4.is)

pub returns-in-5 : goal.returns-in-5
returns-in-5 c =
    let a = c.args in
    c.optional_operand.ensures ∙ sym (return-row a.self.image.now (counts_of a.self.counts) a.at (sym c.in_ok-opcode.ensures) c.in-5.is)

pub returns-in-6 : goal.returns-in-6
returns-in-6 c =
    let a = c.args in
    c.chosen.ensures ∙ sym (int_cmp_row a.self.image.now (counts_of a.self.counts) a.at (sym c.in_ok-opcode.ensures) c.in-6.is)

pub returns-in-7 : goal.returns-in-7
returns-in-7 c =
    let a = c.args in
    c.chosen-in-7.ensures ∙ sym (float_cmp_row a.self.image.now (counts_of a.self.counts) a.at (sym c.in_ok-opcode.ensures) c.in-7.is)

pub returns-in-16 : goal.returns-in-16
returns-in-16 c =
    let a = c.args in
    c.offset.ensures ∙ sym (offset-row a.self.image.now (counts_of a.self.counts) a.at (sym c.in_ok-opcode.ensures) c.in-16.is)

pub returns-in-17 : goal.returns-in-17
returns-in-17 c =
    let a = c.args in
    c.initialize.ensures ∙ sym (initialize_row a.self.image.now (counts_of a.self.counts) a.at (sym c.in_ok-opcode.ensures) c.in-17.is)

pub returns-in-18 : goal.returns-in-18
returns-in-18 c =
    let a = c.args in
    c.pair.ensures ∙ sym (write-row a.self.image.now (counts_of a.self.counts) a.at (sym c.in_ok-opcode.ensures) c.in-18.is)

pub returns-in-20 : goal.returns-in-20
returns-in-20 c =
    let a = c.args in
    c.copy.ensures ∙ sym (copy_row a.self.image.now (counts_of a.self.counts) a.at (sym c.in_ok-opcode.ensures) c.in-20.is)

pub returns-in-21 : goal.returns-in-21
returns-in-21 c =
    let a = c.args in
    c.operand.ensures ∙ sym (drop-row a.self.image.now (counts_of a.self.counts) a.at (sym c.in_ok-opcode.ensures) c.in-21.is)

pub returns-in-11-to-12 : goal.returns-in-11-to-12
returns-in-11-to-12 c =
    let a = c.args in
    c.chosen-in-11-to-12.ensures ∙ sym (division_row a.self.image.now (counts_of a.self.counts) a.at (sym c.in_ok-opcode.ensures) (omega arith) (omega arith))

pub returns-in-14-to-15 : goal.returns-in-14-to-15
returns-in-14-to-15 c =
    let a = c.args in
    c.two.ensures ∙ sym (two-row a.self.image.now (counts_of a.self.counts) a.at (sym c.in_ok-opcode.ensures) (omega arith) (omega arith))

pub returns-in-22-to-18446744073709551615 : goal.returns-in-22-to-18446744073709551615
returns-in-22-to-18446744073709551615 c =
    let a = c.args in
    let d = c.in-22-to-18446744073709551615.in_default-own.rest in
    sym (no_row a.self.image.now (counts_of a.self.counts) a.at (sym c.in_ok-opcode.ensures) (beyond_21 _ c.in-22-to-18446744073709551615.if-opcode-lt16-own.false d.0.0.0.0.0.0.0.0.0.0.0.1 d.0.0.0.0.1 d.0.0.0.1 d.0.0.1 d.0.1 d.1))

pub returns-in-8-to-10 : goal.returns-in-8-to-10
returns-in-8-to-10 c =
    let a = c.args in
    let s = a.self.image.now in
    let n = counts_of a.self.counts in
    let read = sym c.in_ok-opcode.ensures in
    let row : shape (instruction s n a.at) ≡ walk (operand s n) (walk (operand s n) (shape (var s n c.in_ok-opcode.next))) =
    elim c.in-8-to-10-1.branch [
      | in-13-1 w ↦ float_row s n a.at read (omega arith)
      | in_default+then-opcode-lt11 w ↦ integer-row s n a.at read (let k = w.in_default-1.rest in beyond_7 _ k.0.0.0.0.0.0.0.0.0.0.0.0.0.1 k.0.0.0.0.0.0.0.0.0.0.0.0.1 k.0.0.0.0.0.0.0.0.0.0.0.1 k.0.0.0.0.0.0.0.0.0.0.1 k.0.0.0.0.0.0.0.0.0.1 k.0.0.0.0.0.0.0.0.1 k.0.0.0.0.0.0.0.1 k.0.0.0.0.0.0.1) (omega arith)
    ] in
    c.three.ensures ∙ sym row
