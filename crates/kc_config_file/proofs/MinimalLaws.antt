-- The minimal file gives the values back, and none of its lines can go.
use Rattle.std.proofs.{Common.{Bool, List, None, Option, Some, ap, append-nil, cond, false, inl, inr, refl, subst, sym, true, ℕ, ◌<◌, ◌∙◌, ◌≡◌}, lemmas.Bool.and_parts}
use Rattle.std.specs.Prelude.{not}
use Rattle.kc_language.specs.{ConfigFile.{Assignment, Notation, Places, ReadResult, is_prefix, lines_from, no_input, place_at, places_given, reading}, Expressions.SymbolValue, Symbols.{TreeFacts, is_symbol_of}, Texts.{IsOneSolution, minimal_text, read_alone, symbol_config, valuation_view}, Values.{ChoicePlace, GivenValue, Solves, SymbolPlace, UserPlace, default_selection, differs, equations, name_count, rhs, user_place}, declared.expressions.SymId.SymId}
use Rattle.kc_order.specs.Minimal.{NothingCanGo, Restores, kept}
use Rattle.kc_entries.specs.WellFormed.{IsWellFormed}
use Rattle.kc_user.specs.{PartsOfConfigFile.no_places, Places.AllowedPlaces}
use Rattle.kc_values.specs.{GivenLines.minimal_line, Laws.DifferingAreAllowed, Members.{MembersAreBools, MembersAreTheirs}}
use Rattle.kc_values.proofs.FixedLines.{Sel, differs-member, named, place_cases}
use Rattle.kc_config_file.specs.PartsOfTexts.{HasOtherSolution, kept_lines}
use Rattle.kc_input.specs.{HasNames.HasNames, PartsOfTexts.IsOneLine}
use Rattle.kc_input.proofs.GivesLemmas.{Gives, gives_whole}
use Rattle.kc_config_file.proofs.MinimalTextLemmas.{all_given, differing_line, keeps_differing, left_at, minimal_gives, stays, stays_member, tells_differing}

-- a text read alone
pub read_alone_is : (tree : TreeFacts) (prefix : Notation) (name text : List ℕ) → read_alone tree prefix name text ≡ reading tree prefix (no_input false tree) (lines_from name 1 text)
read_alone_is tree prefix name text = ap (reading tree prefix (no_input false tree)) (append-nil (lines_from name 1 text))

-- a text that gives these assignments, read alone
pub alone_whole : (tree : TreeFacts) (prefix : Notation) (name text : List ℕ) (given : List Assignment) → Gives tree prefix name text given →
    let read = read_alone tree prefix name text in (read.stopped ≡ None) × (read.input.places ≡ places_given tree (no_places tree) given)
alone_whole tree prefix name text given gives =
    let (whole, left) = gives_whole tree prefix name text given (no_input false tree) gives in
    (ap (λ (r : ReadResult). r.stopped) (read_alone_is tree prefix name text) ∙ whole, ap (λ (r : ReadResult). r.input.places) (read_alone_is tree prefix name text) ∙ left)

module _ (tree : TreeFacts) (user : UserPlace → Option GivenValue) (V : ℕ → SymbolValue) (formed : IsWellFormed tree) (theirs : MembersAreTheirs tree)
    (bools : MembersAreBools tree) (named_all : HasNames tree) (allowed_at : AllowedPlaces tree user) (law : DifferingAreAllowed)
    (solves : Solves (name_count tree) (equations tree user) V) (prefix : Notation) (is_pre : is_prefix prefix.prefix ≡ true) where
  abbrev Keep : UserPlace → Bool
  Keep = keeps_differing tree user V theirs solves

  abbrev Assigned : (SymId → Bool) → Places
  Assigned keep = places_given tree (no_places tree) (all_given tree user V formed theirs bools named_all allowed_at law solves prefix is_pre keep)

  abbrev Stays : (SymId → Bool) → UserPlace → Bool
  Stays keep = stays tree user V formed theirs bools named_all allowed_at law solves prefix is_pre keep

  read_kept : (keep : SymId → Bool) (name : List ℕ) →
      let read = read_alone tree prefix name (kept_lines tree prefix (valuation_view tree user V) keep) in (read.stopped ≡ None) × (read.input.places ≡ Assigned keep)
  read_kept keep name =
      alone_whole tree prefix name (kept_lines tree prefix (valuation_view tree user V) keep)
      (all_given tree user V formed theirs bools named_all allowed_at law solves prefix is_pre keep)
      (minimal_gives tree user V formed theirs bools named_all allowed_at law solves prefix is_pre keep name)

  place_is : (keep : SymId → Bool) (i : ℕ) → i < name_count tree → place_at (Assigned keep) (user_place tree i) ≡ kept (Stays keep) (kept Keep (minimal_line tree user V)) (user_place tree i)
  place_is keep i lt = left_at tree user V formed theirs bools named_all allowed_at law solves prefix is_pre keep i lt

  abbrev all : SymId → Bool
  all s = true

  all_members : (r : Option SymId) → stays_member tree user V formed theirs bools named_all allowed_at law solves prefix is_pre all r ≡ true
  all_members None = refl
  all_members (Some m) = refl

  all_stay : (p : UserPlace) → Stays all p ≡ true
  all_stay (SymbolPlace i) = refl
  all_stay (ChoicePlace c) = all_members (Sel tree user V solves c)

  all_kept : (p : UserPlace) → kept (Stays all) (kept Keep (minimal_line tree user V)) p ≡ kept Keep (minimal_line tree user V) p
  all_kept p = ap (λ b. cond b (kept Keep (minimal_line tree user V) p) None) (all_stay p)

  -- the whole file
  pub gives_back : Restores (name_count tree) (user_place tree) (rhs tree) (minimal_line tree user V) V Keep → (name : List ℕ) →
      let read = read_alone tree prefix name (minimal_text tree prefix (valuation_view tree user V)) in (read.stopped ≡ None) × IsOneSolution tree read.input.places V
  unfolding minimal_text
  gives_back restores name =
      let (whole, is) = read_kept all name in
      let same : (i : ℕ) → i < name_count tree → place_at (Assigned all) (user_place tree i) ≡ kept Keep (minimal_line tree user V) (user_place tree i) =
      λ i lt. place_is all i lt ∙ all_kept (user_place tree i) in (
        whole,
        subst (λ (p : Places). IsOneSolution tree p V) (sym is) (record {
          solves = λ i lt. restores.solves i lt ∙ ap (λ g. rhs tree i g V) (sym (same i lt));
          only = λ W w. restores.only W (λ i lt. w i lt ∙ ap (λ g. rhs tree i g W) (same i lt));
        }),
      )

  gone : (keep : SymId → Bool) (s : SymId) → s.0 < name_count tree → differs tree user V s.0 ≡ true → keep s ≡ false → Stays keep (user_place tree s.0) ≡ false
  gone keep s lt other away = elim (place_cases tree s.0) [
    | inl at ↦ ap (Stays keep) at ∙ away
    | inr (c, at) ↦
        let both = and_parts (is_symbol_of s (Sel tree user V solves c)) (not (is_symbol_of s (default_selection tree V c))) (sym (differs-member tree user V solves s.0 c at) ∙ other) in
        ap (Stays keep) at ∙ ap (stays_member tree user V formed theirs bools named_all allowed_at law solves prefix is_pre keep) (named (Sel tree user V solves c) s both.0) ∙ away
  ]

  -- without some of its lines
  pub none_to_spare : NothingCanGo (name_count tree) (user_place tree) (rhs tree) (minimal_line tree user V) V Keep → (name : List ℕ) (keep : SymId → Bool) (s : SymId) →
      s.0 < name_count tree → differs tree user V s.0 ≡ true → keep s ≡ false →
      let read = read_alone tree prefix name (kept_lines tree prefix (valuation_view tree user V) keep) in
      IsOneLine (symbol_config tree prefix (valuation_view tree user V) s) × (read.stopped ≡ None) × HasOtherSolution tree read.input.places V
  none_to_spare nothing name keep s lt other away =
      let (whole, is) = read_kept keep name in
      let tells = tells_differing tree user V theirs solves in (
        differing_line tree user V formed theirs bools named_all allowed_at law solves prefix is_pre keep s lt other,
        whole,
        subst (λ (p : Places). HasOtherSolution tree p V) (sym is)
            (λ W w same.
            nothing (Stays keep) (user_place tree s.0) (tells.every s.0 lt other) (gone keep s lt other away) W
            (λ i below. w i below ∙ ap (λ g. rhs tree i g W) (place_is keep i below)) same),
      )
