-- When reading the .config that was written gives the values again.
use Rattle.std.proofs.Common.{List, None, Option, ap, false, subst, sym, true, ℕ, ◌<◌, ◌↔◌, ◌∙◌, ◌≡◌}
use Rattle.kc_language.specs.{ConfigFile.{Notation, Places, is_prefix, place_at}, Expressions.SymbolValue, Needs.IsAccepted, Symbols.TreeFacts, Texts.{HasPlainTitles, IsOneSolution, config_text, read_alone, valuation_view}, Values.{GivenValue, Solves, UserPlace, changes_on_reread, equations, known_from, name_count, rhs, user_place, written}, declared.expressions.SymId.SymId}
use Rattle.kc_entries.specs.WellFormed.{IsLineText, IsWellFormed, OfTitles, ShowsEach}
use Rattle.kc_values.specs.{GivenLines.reread_places, Laws.SolutionsAgree, Members.{MembersAreBools, MembersAreTheirs}}
use Rattle.kc_input.specs.HasNames.{HasNames}
use Rattle.kc_config_file.proofs.ConfigLaws.{Reread, config_read, reread_at}
use Rattle.kc_input.proofs.SymbolLineLemmas.{FitsLine}

module _ (tree : TreeFacts) (user : UserPlace → Option GivenValue) (V : ℕ → SymbolValue) (formed : IsWellFormed tree) (theirs : MembersAreTheirs tree)
    (bools : MembersAreBools tree) (named_all : HasNames tree) (shows : ShowsEach tree) (texts : OfTitles IsLineText tree)
    (solves : Solves (name_count tree) (equations tree user) V)
    (fits : (s : SymId) → s.0 < name_count tree → written tree (known_from tree V) s ≡ true → FitsLine (V s.0)) (prefix : Notation)
    (is_pre : is_prefix prefix.prefix ≡ true) (plain : HasPlainTitles tree prefix.prefix (valuation_view tree user V)) where
  abbrev IsIdempotent : Type 0
  IsIdempotent = (i : ℕ) → i < name_count tree → changes_on_reread tree V i ≡ false

  pub idempotent_again : IsAccepted tree → SolutionsAgree → (Solves (name_count tree) (equations tree (reread_places tree V)) V ↔ IsIdempotent) → (name : List ℕ) →
      let read = read_alone tree prefix name (config_text tree prefix (valuation_view tree user V)) in (read.stopped ≡ None) × (IsOneSolution tree read.input.places V ↔ IsIdempotent)
  idempotent_again accepted agree settled name =
      let (whole, is) = config_read tree user V formed theirs bools named_all shows texts solves fits prefix is_pre plain name in
      let P = Reread tree user V formed theirs bools named_all shows texts solves fits prefix is_pre plain in
      let same : (i : ℕ) → i < name_count tree → place_at P (user_place tree i) ≡ reread_places tree V (user_place tree i) =
      reread_at tree user V formed theirs bools named_all shows texts solves fits prefix is_pre plain in
      let there : Solves (name_count tree) (equations tree (reread_places tree V)) V → Solves (name_count tree) (equations tree (place_at P)) V =
      λ w i lt. w i lt ∙ ap (λ g. rhs tree i g V) (sym (same i lt)) in
      let back : Solves (name_count tree) (equations tree (place_at P)) V → Solves (name_count tree) (equations tree (reread_places tree V)) V =
      λ w i lt. w i lt ∙ ap (λ g. rhs tree i g V) (same i lt) in
      let both : IsOneSolution tree P V ↔ IsIdempotent = (
        λ one. settled.0 (back one.solves),
        λ all. record { solves = there (settled.1 all); only = agree tree (place_at P) accepted V (there (settled.1 all)) },
      ) in
      (whole, subst (λ (p : Places). IsOneSolution tree p V ↔ IsIdempotent) (sym is) both)
