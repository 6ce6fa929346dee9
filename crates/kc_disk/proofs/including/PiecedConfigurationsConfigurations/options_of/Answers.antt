-- The options for the pieces of a configuration come from its own.
use Rattle.std.proofs.Common.{◌≡◌, ◌∙◌, List, ℕ, [], map, slice_index_or, string_bytes, subst, sym}
use Rattle.std.proofs.lemmas.List.{get_or-map}
use Rattle.std.proofs.lemmas.Result.{IfOk-weaker}
use Rattle.kc_outcome.specs.Outcome.{Options}
use Rattle.kc_words.specs.CommandLine.{AreOptionsFor}
use Rattle.kc_disk.specs.Program.{GivesPieced, IsPieced}
use Rattle.kc_disk.proofs.including.PiecedConfigurationsConfigurations.options_of.Goals as goal

pub returns : goal.returns
returns c =
    let named = c.args.self.now.named.now in
    let each = named.each.now in
    let names = named.names.now in
    let options = c.in_ok-options.options in
    let there = get_or-map string_bytes names c.args.i c.index-self-i.result [] c.requires in
    let given : AreOptionsFor each (slice_index_or (map string_bytes names) c.args.i []) options =
    subst (λ (text : List ℕ). AreOptionsFor each text options) (c.as_str-name.ensures.value ∙ sym there) c.in_ok-options.ensures in
    let pieced_is : (pieced : Options) → IsPieced options pieced → GivesPieced each (map string_bytes names) c.args.i pieced = λ pieced is. (options, given, is) in
    IfOk-weaker c.pieced.result (IsPieced options) (GivesPieced each (map string_bytes names) c.args.i) pieced_is c.pieced.ensures
