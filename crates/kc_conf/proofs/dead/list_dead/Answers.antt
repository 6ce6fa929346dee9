-- It ends as the list was left, and is answered so.
use Rattle.kc_conf.proofs.dead.list_dead.Goals as goal

pub returns : goal.returns
returns g c = record {
  outcome = c.list_over-ended.ensures.outcome;
  is_outcome = c.list_over-ended.ensures.is_outcome;
  result = c.list_over-ended.result;
  mid = g.D.Device.log c.list_over-ended.new.device;
  ends = c.list_over-ended.ensures.ends;
  is_over = c.answer.result.is_over;
  answers = c.answer.ensures;
}
