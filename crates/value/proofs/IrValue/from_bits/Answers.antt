-- `from_bits`: a scalar value has 32 bits, and of a signed kind the machine's two's complement is the definition's.
use mathlib.Core.Path.{sym, ap, ◌∙◌}
use borrow.Author.Tests.{ltb-true}
use mir.Syntax.{w8, w16, w32, w64}
use Rattle.std.specs.Prelude.{Some}
use Rattle.value.specs.Value.{integer, family, size, tag, i8, i16, i32, i64, char}
use Rattle.value.specs.Tags.{holds}
use Rattle.value.specs.Ir.{ir_of}
use Rattle.value.specs.declared.IrValue.TheVariants as Ir
use Rattle.value.proofs.Complement.{signed_is}
use Rattle.value.proofs.Roundtrip.{scalar_small}
use Rattle.value.proofs.Tags.{held_at, made_at_lem}
use Rattle.value.proofs.IrValue.from_bits.Goals as goal

pub returns-in-6 : goal.returns-in-6
unfolding integer family size tag holds ir_of
returns-in-6 c =
    let A = c.args in
    let h = sym c.fits.ensures ∙ c.if-not-fits.false in
    let small = ltb-true _ _ (sym (held_at i8 A.bits c.in-6.is) ∙ h) in
    ap (λ z. Some (Ir.I8 z)) (signed_is w8 A.bits (record { sfits = c.cast_signed.type_inv }) c.cast_signed.ensures small) ∙ made_at_lem i8 A.bits c.in-6.is h

pub returns-in-7 : goal.returns-in-7
unfolding integer family size tag holds ir_of
returns-in-7 c =
    let A = c.args in
    let h = sym c.fits.ensures ∙ c.if-not-fits.false in
    let small = ltb-true _ _ (sym (held_at i16 A.bits c.in-7.is) ∙ h) in
    ap (λ z. Some (Ir.I16 z)) (signed_is w16 A.bits (record { sfits = c.cast_signed-in-7.type_inv }) c.cast_signed-in-7.ensures small) ∙ made_at_lem i16 A.bits c.in-7.is h

pub returns-in-8 : goal.returns-in-8
unfolding integer family size tag holds ir_of
returns-in-8 c =
    let A = c.args in
    let h = sym c.fits.ensures ∙ c.if-not-fits.false in
    let small = ltb-true _ _ (sym (held_at i32 A.bits c.in-8.is) ∙ h) in
    ap (λ z. Some (Ir.I32 z)) (signed_is w32 A.bits (record { sfits = c.cast_signed-in-8.type_inv }) c.cast_signed-in-8.ensures small) ∙ made_at_lem i32 A.bits c.in-8.is h

pub returns-in-9 : goal.returns-in-9
unfolding integer family size tag holds ir_of
returns-in-9 c =
    let A = c.args in
    let h = sym c.fits.ensures ∙ c.if-not-fits.false in
    let small = ltb-true _ _ (sym (held_at i64 A.bits c.in-9.is) ∙ h) in
    ap (λ z. Some (Ir.I64 z)) (signed_is w64 A.bits (record { sfits = c.cast_signed-in-9.type_inv }) c.cast_signed-in-9.ensures small) ∙ made_at_lem i64 A.bits c.in-9.is h

pub overflow_cast-result-in-12 : goal.overflow_cast-result-in-12
unfolding tag holds
overflow_cast-result-in-12 c = record { fits = scalar_small _ (sym (held_at char c.args.bits c.in-12.is) ∙ sym c.fits.ensures ∙ c.if-not-fits.false) }
