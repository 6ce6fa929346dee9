-- The name and the value in a text.
use Rattle.std.proofs.Common.{◌≡◌, ◌<◌, ◌==◌, Bool, Bor, List, Option, None, Some, length, refl, sym, ap, subst, ◌∙◌, true, false, ℕ, lit<, codes, nat_lt, arith, position}
use Rattle.std.specs.List.{after_first, before_first, list_any, position_or_len}
use Rattle.std.specs.Option.{is_some}
use Rattle.std.proofs.lemmas.Bool.Decides.{nat_tests}
use Rattle.std.proofs.lemmas.Str.Pattern.{IsSplitOnceResult, split_once_first}
use Rattle.clap.specs.Words.{Text}
use Rattle.kc_language.specs.Text.{byte}
use Rattle.kc_words.specs.CommandLine.{goal_in, if_named}
use Rattle.kc_words.proofs.PlaceLemmas.{position-any}

abbrev equals : ℕ → Bool
equals b = b == byte "="

module _ (text : Text) where
  -- there is a `=` if the first stands inside
  any_inside : position_or_len equals text < length text → list_any equals text ≡ true
  any_inside h = sym (position-any equals text) ∙ (let less : nat_lt (position_or_len equals text) (length text) ≡ true = grind (arith, nat_tests) in rw less refl)

  any_outside : position_or_len equals text ≡ length text → list_any equals text ≡ false
  any_outside h = sym (position-any equals text) ∙ (let less : nat_lt (position_or_len equals text) (length text) ≡ false = grind (arith, nat_tests) in rw less refl)

  pub goal-none : (r : Option (Bor (List ℕ) × Bor (List ℕ))) → IsSplitOnceResult 61 text r → r ≡ None → None ≡ goal_in text
  goal-none r split is = let none = rw is at (split_once_first 61 text r split (lit< tt)) in rw (any_outside none) refl

  pub goal-parts : (r : Option (Bor (List ℕ) × Bor (List ℕ))) → IsSplitOnceResult 61 text r → (x : Bor (List ℕ) × Bor (List ℕ)) → r ≡ Some x →
      if_named x.0.now x.1.now ≡ goal_in text
  goal-parts r split x is = let (inside, front, back) = rw is at (split_once_first 61 text r split (lit< tt)) in rw (any_inside inside, front, back) refl

-- rows: some texts, computed
two_equals : goal_in (codes "A=b=c") ≡ Some (codes "A", codes "b=c")
two_equals = refl

no_equals : goal_in (codes "A") ≡ None
no_equals = refl

no_name : goal_in (codes "=y") ≡ None
no_name = refl
