use Rattle.kc_values.proofs.ModeLaws.{mode_is_prompt}
use Rattle.kc_values.proofs.laws.choices_stand_alone.Goals as goal

pub returns : goal.returns
returns c = mode_is_prompt
