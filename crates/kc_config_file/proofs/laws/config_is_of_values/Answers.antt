-- The view of the other places differs only in which symbols differ and are new, and the text does not ask for it.
use Rattle.kc_language.specs.Texts.{valuation_view}
use Rattle.kc_config_file.proofs.EntryLemmas.{config_text-same}
use Rattle.kc_config_file.proofs.laws.config_is_of_values.Goals as goal

pub returns : goal.returns
returns c tree prefix user other V =
    let view = valuation_view tree user V in
    let second = valuation_view tree other V in
    config_text-same tree prefix view.value view.written (view.differs, view.is_new) (second.differs, second.is_new) view.truth
