-- `pass_raw` meets its contract: the bytes that were read stand there, and are written.
use Rattle.std.proofs.Common.{arith, rules}
use Rattle.image_writer.proofs.Keeps.{raw-there, raw-passed, raw-stays}
use Rattle.image_writer.proofs.writer.pass_raw.Goals as goal

pub slice_bounds-write_bytes-count : goal.slice_bounds-write_bytes-count
slice_bounds-write_bytes-count c = let there = raw-there c.args.image.now c.args.c.from c.args.count c.in-Ok.ensures in omega (arith, there.0)

pub slice_bounds-write_bytes-start : goal.slice_bounds-write_bytes-start
slice_bounds-write_bytes-start c = let there = raw-there c.args.image.now c.args.c.from c.args.count c.in-Ok.ensures in search (rules, there)

pub slice_bounds-write_bytes-end : goal.slice_bounds-write_bytes-end
slice_bounds-write_bytes-end c = let there = raw-there c.args.image.now c.args.c.from c.args.count c.in-Ok.ensures in search (rules, there)

pub returns-in-Ok : goal.returns-in-Ok
returns-in-Ok c =
    let a = c.args in
    raw-passed a.image.now a.c a.out.now a.count c.in-Ok.ensures c.write_bytes.ensures c.unwrap_or-to.ensures

pub returns-in-Err : goal.returns-in-Err
returns-in-Err c = let a = c.args in raw-stays a.image.now a.c a.out.now a.count c.in-Err.ensures
