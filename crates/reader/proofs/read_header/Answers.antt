-- `reader::read_header` meets its contract: each field by what the reader says of it, put into the header's chain.
use Rattle.std.specs.Prelude.{Err, ◌≡◌, eqb}
use Rattle.std.proofs.Common.{rules}
use mathlib.Core.Path.{◌∙◌}
use Prim.Native.Nat.{◌≤◌}
use lib.ListN.{length}
use native.Mathlib.Omega.{arith}
use Rattle.value.specs.Refusal.{unknown}
use Rattle.image.specs.Fields.{such, at_most}
use Rattle.image.specs.Parse.{took, refused}
use Rattle.reader.proofs.Read.{version_stops, variables_stop, constants_stop, functions_stop, blocks_stop, counted}
use Rattle.reader.proofs.read_header.Goals as goal

pub returns-in_err-version : goal.returns-in_err-version
returns-in_err-version c =
    let s = c.args.image.now in
    let small : length s ≤ 32768 = omega arith in
    let e = c.in_err-version.field-0.0 in
    let is : c.from_residual.result ≡ Err e = search rules in
    let h : such s (λ v. eqb v 1) unknown 0 ≡ refused e.why e.place = search rules in
    is ∙ version_stops s small h

pub returns-in_err-variables : goal.returns-in_err-variables
returns-in_err-variables c =
    let s = c.args.image.now in
    let small : length s ≤ 32768 = omega arith in
    let h-version : such s (λ v. eqb v 1) unknown 0 ≡ took c.in_ok-version.version c.only.new.self.place = search rules in
    let e = c.in_err-variables.field-0.0 in
    let is : c.from_residual-in_err-variables.result ≡ Err e = search rules in
    let h : at_most s 256 c.only.new.self.place ≡ refused e.why e.place = search rules in
    is ∙ variables_stop s small h-version h

pub returns-in_err-constants : goal.returns-in_err-constants
returns-in_err-constants c =
    let s = c.args.image.now in
    let small : length s ≤ 32768 = omega arith in
    let h-version : such s (λ v. eqb v 1) unknown 0 ≡ took c.in_ok-version.version c.only.new.self.place = search rules in
    let h-variables : at_most s 256 c.only.new.self.place ≡ took c.in_ok-variables.variables c.up_to.new.self.place = search rules in
    let e = c.in_err-constants.field-0.0 in
    let is : c.from_residual-in_err-constants.result ≡ Err e = search rules in
    let h : at_most s 64 c.up_to.new.self.place ≡ refused e.why e.place = search rules in
    is ∙ constants_stop s small h-version h-variables h

pub returns-in_err-functions : goal.returns-in_err-functions
returns-in_err-functions c =
    let s = c.args.image.now in
    let small : length s ≤ 32768 = omega arith in
    let h-version : such s (λ v. eqb v 1) unknown 0 ≡ took c.in_ok-version.version c.only.new.self.place = search rules in
    let h-variables : at_most s 256 c.only.new.self.place ≡ took c.in_ok-variables.variables c.up_to.new.self.place = search rules in
    let h-constants : at_most s 64 c.up_to.new.self.place ≡ took c.in_ok-constants.constants c.up_to-2.new.self.place = search rules in
    let e = c.in_err-functions.field-0.0 in
    let is : c.from_residual-in_err-functions.result ≡ Err e = search rules in
    let h : at_most s 64 c.up_to-2.new.self.place ≡ refused e.why e.place = search rules in
    is ∙ functions_stop s small h-version h-variables h-constants h

pub returns-in_err-blocks : goal.returns-in_err-blocks
returns-in_err-blocks c =
    let s = c.args.image.now in
    let small : length s ≤ 32768 = omega arith in
    let h-version : such s (λ v. eqb v 1) unknown 0 ≡ took c.in_ok-version.version c.only.new.self.place = search rules in
    let h-variables : at_most s 256 c.only.new.self.place ≡ took c.in_ok-variables.variables c.up_to.new.self.place = search rules in
    let h-constants : at_most s 64 c.up_to.new.self.place ≡ took c.in_ok-constants.constants c.up_to-2.new.self.place = search rules in
    let h-functions : at_most s 64 c.up_to-2.new.self.place ≡ took c.in_ok-functions.functions c.up_to-3.new.self.place = search rules in
    let e = c.in_err-blocks.field-0.0 in
    let is : c.from_residual-in_err-blocks.result ≡ Err e = search rules in
    let h : at_most s 512 c.up_to-3.new.self.place ≡ refused e.why e.place = search rules in
    is ∙ blocks_stop s small h-version h-variables h-constants h-functions h

pub returns : goal.returns
returns c =
    let s = c.args.image.now in
    let small : length s ≤ 32768 = omega arith in
    let h-version : such s (λ v. eqb v 1) unknown 0 ≡ took c.in_ok-version.version c.only.new.self.place = search rules in
    let h-variables : at_most s 256 c.only.new.self.place ≡ took c.in_ok-variables.variables c.up_to.new.self.place = search rules in
    let h-constants : at_most s 64 c.up_to.new.self.place ≡ took c.in_ok-constants.constants c.up_to-2.new.self.place = search rules in
    let h-functions : at_most s 64 c.up_to-2.new.self.place ≡ took c.in_ok-functions.functions c.up_to-3.new.self.place = search rules in
    let h-blocks : at_most s 512 c.up_to-3.new.self.place ≡ took c.in_ok-blocks.blocks c.up_to-4.new.self.place = search rules in
    counted s small h-version h-variables h-constants h-functions h-blocks
