-- The first thing that attributes say.
use Rattle.std.proofs.{Common.{List, None, Option, Some, [], add-one, ap, arith, drop, get_or, length, refl, sym, ℕ, ◌+◌, ◌<◌, ◌∙◌, ◌∷◌, ◌≡◌, ◌≤◌}, lemmas.{List.length-map, Option.{slice_get-get_or, slice_get-map}}}
use Rattle.std.specs.{List.{filter_map, slice_get}, Prelude.option_map}
use Rattle.kc_language.specs.Statements.{Numbered}
use Rattle.kc_entries.specs.{PartsOfSymbols.first_of, StatementViews.attribute_view, declared.entries.AttributeLine.AttributeLine}
use Rattle.kc_entries.proofs.PlaceLemmas.{drop-get, drop_past}
use Rattle.kc_tree.specs.EntryViews.{statements_of}

-- what a line says that was read by its place
pub statement_at : (ls : List AttributeLine) (i : ℕ) (x : AttributeLine) → i < length ls → x ≡ get_or ls i x → slice_get (statements_of ls) i ≡ Some (attribute_view x.attribute)
statement_at ls i x h e =
    slice_get-map (λ (l : AttributeLine). attribute_view l.attribute) ls i ∙ ap (option_map (λ (l : AttributeLine). attribute_view l.attribute)) (slice_get-get_or ls i x h ∙ ap Some (sym e))

pub length-statements_of : (ls : List AttributeLine) → length (statements_of ls) ≡ length ls
length-statements_of ls = length-map ls (λ (l : AttributeLine). attribute_view l.attribute)

-- what is said from a line on
pub statements_from : (ls : List AttributeLine) (i : ℕ) (x : AttributeLine) → i < length ls → x ≡ get_or ls i x → drop i (statements_of ls) ≡ attribute_view x.attribute ∷ drop (i + 1) (statements_of ls)
statements_from ls i x h e = drop-get (statements_of ls) i (attribute_view x.attribute) (statement_at ls i x h e) ∙ (rw add-one refl)

pub statements_end : (ls : List AttributeLine) (i : ℕ) → length ls ≤ i → drop i (statements_of ls) ≡ []
statements_end ls i h = drop_past (statements_of ls) i (omega (arith, length-statements_of ls))

-- a walk that ends at the first line that says something
module _ {A : Type 0} (f : Numbered → Option A) where
  abbrev pub FirstIs : List AttributeLine → ℕ → Type 0
  FirstIs ls i = first_of (filter_map f (drop i (statements_of ls))) ≡ first_of (filter_map f (statements_of ls))

  pub first_here : (ls : List AttributeLine) (i : ℕ) (x : AttributeLine) (o : Option A) → FirstIs ls i → i < length ls → x ≡ get_or ls i x → o ≡ f (attribute_view x.attribute) →
      (a : A) → o ≡ Some a → Some a ≡ first_of (filter_map f (statements_of ls))
  first_here ls i x o h b at e a q =
      let s : f (attribute_view x.attribute) ≡ Some a = sym e ∙ q in
      sym (sym h ∙ (rw (statements_from ls i x b at, s) refl))

  pub first_later : (ls : List AttributeLine) (i : ℕ) (x : AttributeLine) (o : Option A) → FirstIs ls i → i < length ls → x ≡ get_or ls i x → o ≡ f (attribute_view x.attribute) → o ≡ None → FirstIs ls (i + 1)
  first_later ls i x o h b at e q =
      let s : f (attribute_view x.attribute) ≡ None = sym e ∙ q in
      (rw (statements_from ls i x b at, s) at h)

  pub first_none : (ls : List AttributeLine) (i : ℕ) → FirstIs ls i → length ls ≤ i → None ≡ first_of (filter_map f (statements_of ls))
  first_none ls i h b = (rw (statements_end ls i b) at h)
