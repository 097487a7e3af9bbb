-- `load` meets its contract: each part of the image is read as the definition reads it.
use Rattle.std.proofs.Common.{rules, arith, ◌≡◌, ◌∙◌, Err}
use Rattle.loader.proofs.Whole.{too_long, header-limits, header-stops, constants-stop, functions-stop, blocks-stop, end-stops, loads}
use Rattle.loader.proofs.load.load.Goals as goal

pub returns-then-image-gt32768 : goal.returns-then-image-gt32768
returns-then-image-gt32768 c = too_long c.args.image.now c.if-image-gt32768.true

pub returns-in_err-header : goal.returns-in_err-header
returns-in_err-header c =
    let is : c.from_residual.result ≡ Err c.in_err-header.field-0.0 = search rules in
    is ∙ header-stops c.args.image.now c.if-image-gt32768.false c.in_err-header.ensures

pub constants-requires : goal.constants-requires
constants-requires c = (header-limits c.args.image.now c.in_ok-header.ensures).0

pub returns-in_err-functions_at : goal.returns-in_err-functions_at
returns-in_err-functions_at c =
    let is : c.from_residual-in_err-functions_at.result ≡ Err c.in_err-functions_at.field-0.0 = search rules in
    is ∙ constants-stop c.args.image.now c.if-image-gt32768.false c.in_ok-header.ensures c.in_err-functions_at.ensures.ends

pub functions-requires : goal.functions-requires
functions-requires c = (header-limits c.args.image.now c.in_ok-header.ensures).1

pub returns-in_err-blocks_at : goal.returns-in_err-blocks_at
returns-in_err-blocks_at c =
    let is : c.from_residual-in_err-blocks_at.result ≡ Err c.in_err-blocks_at.field-0.0 = search rules in
    is ∙ functions-stop c.args.image.now c.if-image-gt32768.false c.in_ok-header.ensures c.in_ok-functions_at.ensures c.in_err-blocks_at.ensures.ends

pub blocks-requires : goal.blocks-requires
blocks-requires c = ((header-limits c.args.image.now c.in_ok-header.ensures).2, omega arith)

pub returns-in_err-blocks : goal.returns-in_err-blocks
returns-in_err-blocks c =
    let is : c.from_residual-in_err-blocks.result ≡ Err c.in_err-blocks.field-0.0 = search rules in
    is ∙ blocks-stop c.args.image.now c.if-image-gt32768.false c.in_ok-header.ensures c.in_ok-functions_at.ensures c.in_ok-blocks_at.ensures c.in_err-blocks.ensures.answer

pub returns-in_err-end : goal.returns-in_err-end
returns-in_err-end c =
    let is : c.from_residual-in_err-end.result ≡ Err c.in_err-end.field-0.0 = search rules in
    is ∙ end-stops c.args.image.now c.if-image-gt32768.false c.in_ok-header.ensures c.in_ok-functions_at.ensures c.in_ok-blocks_at.ensures c.in_ok-blocks.ensures c.in_err-end.ensures

pub returns : goal.returns
returns c = loads c.args.image.now c.if-image-gt32768.false c.in_ok-header.ensures c.in_ok-functions_at.ensures c.in_ok-blocks_at.ensures c.in_ok-blocks.ensures c.in_ok-end.ensures
