use Rattle.std.proofs.Common.{List, [], ap, map, string_bytes, sym, ℕ, ◌∙◌}
use Rattle.kc_language.specs.{Expressions.all_mentioned, Files.path_of}
use Rattle.kc_load.specs.PartsOfOutcome.{inputs_of}
use Rattle.kc_load.proofs.MentionLemmas.{all_append}
use Rattle.kc_load.proofs.prerequisites.prerequisites_of.Goals as goal

pub returns : goal.returns
returns c =
    let paths = map (path_of c.args.dir.now) c.args.opened.now in
    let inputs = inputs_of c.args.out.now c.args.config.now (map string_bytes c.args.fragments.now) in
    c.in_ok-add_inputs.ensures
    ∙ ap (λ (n : List (List ℕ)). all_mentioned n inputs) (c.in_ok-add_paths.ensures ∙ ap (λ (n : List (List ℕ)). all_mentioned n paths) c.new-names.ensures)
    ∙ sym (all_append [] paths inputs)
