-- What a well-formed tree says of its choices.
use Rattle.std.proofs.{Common.{Some, ap, refl, sym, ◌∙◌, ◌≡◌}, lemmas.{List.Elements.All-contains, Option.slice_get_within}}
use Rattle.kc_language.specs.{Expressions.lesser, Symbols.{SymbolFacts, TreeFacts}, Values.and_value, declared.expressions.Tri.{TheVariants.{M, N, Y}, Tri}}
use Rattle.kc_entries.specs.WellFormed.{IsMemberOf, IsWellFormed}
use Rattle.kc_values.specs.{Laws.ModeIsPromptCondition, Members.{MembersAreBools, MembersAreTheirs}, PartsOfValues.{mode_value, prompt_value}}

least-y : (a : Tri) → lesser a Y ≡ a
least-y N = refl
least-y M = refl
least-y Y = refl

pub mode_is_prompt : ModeIsPromptCondition
mode_is_prompt tree known c f p formed at prompt =
    let none = (formed.choices_sound c f at).prompt p prompt in
    ap (prompt_value tree known) prompt
    ∙ sym (least-y (and_value tree known p.conjuncts)) ∙ ap (λ m. lesser (and_value tree known p.conjuncts) (mode_value tree known m)) (sym none)

some_same : {X : Type 0} (a b : X) → Some a ≡ Some b → a ≡ b
some_same a b e = cc

pub members_are_theirs : (tree : TreeFacts) → IsWellFormed tree → MembersAreTheirs tree
members_are_theirs tree formed c f m e i =
    let h = All-contains (IsMemberOf tree c) f.members m (formed.choices_sound c f e).members i in
    (slice_get_within tree.symbols m.0 h.0 h.1, (h.0, h.1, h.2))

pub members_are_bools : (tree : TreeFacts) → IsWellFormed tree → MembersAreBools tree
members_are_bools tree formed s g c e h =
    let listed = formed.members_listed s.0 g e c h in
    let mine = All-contains (IsMemberOf tree c) listed.0.members s (formed.choices_sound c listed.0 listed.1).members listed.2 in
    let same : g ≡ mine.0 = some_same g mine.0 (sym e ∙ mine.1) in
    ap (λ (f : SymbolFacts). f.symbol_type) same ∙ mine.3
