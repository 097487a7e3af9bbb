-- `pass_list` meets its contract: by its count.
use Rattle.image_writer.proofs.Keeps.{list_passed}
use Rattle.image_writer.proofs.writer.pass_list.Goals as goal

pub returns : goal.returns
returns g c past h = list_passed past c.pass_number-count.ensures.passed c.pass_number-count.ensures.number (c.pass_times.ensures c.args.image.now past h)
