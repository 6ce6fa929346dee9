-- What selects and implies a symbol, by the list of lines with an effect.
use Rattle.std.proofs.{Common.{Bool, List, None, Option, Some, [], ap, cond, false, filter, length, map, refl, suc, sym, true, ℕ, ◌+◌, ◌-◌, ◌<◌, ◌||◌, ◌∙◌, ◌∷◌, ◌≡◌}, Math.Bool.or-false, lemmas.List.append-nil}
use Rattle.std.specs.{List.{filter_map, flat_map, list_any, slice_get}, Option.{is_some, option_and_then}, Prelude.option_map}
use Rattle.kc_language.specs.{Expansion.{attributes, defined_name, is_attribute, numbers}, Expressions.{Form, same_symbol}, Statements.{ImplyLine, Numbered, SelectLine}, Symbols.{Condition, Guarded, can_be_target, dependency, guarded, listed, naming_at, target_of, targets}, declared.{expressions.SymId.SymId, symbols.SelectOrImply.SelectOrImply}}
use Rattle.kc_language.specs.declared.symbols.SelectOrImply.TheVariants as word
use Rattle.kc_entries.specs.{Entries.start_at, declared.entries.Entries.Entries}
use Rattle.kc_entries.proofs.{ElementLemmas.same_is, ListLemmas.map-filter_map}
use Rattle.kc_tree.specs.{EntryViews.{attribute_at, entry_count, entry_numbers, entry_symbol, index_of, said_by, statements_in}, Layouts.{condition_at, place_of, selector_facts, selectors_up_to, with_when}, Places.{effects_at, has_effect, has_effect_at, line_in, names}, Stored.unstored, declared.{layout.Layout.Layout, rows.Selector.Selector}}
use Rattle.kc_tree.specs.Layouts as layout
use Rattle.kc_tree.proofs.{DefinitionLemmas.{config-by, is_plain, plain-dependency}, EntryListLemmas.no-name, IndexLemmas.{attribute-said, attributes-is, flat-entries, symbol-is}, ListLemmas.{flat-below, flat-each, flat-filter, flat-filter_map, flat-flat, flat-get, flat-map, flat-pulled}}
use Rattle.kc_tree.specs.EntryViews as entries

cond-none : {X : Type 0} (b : Bool) → cond {A = List X} b [] [] ≡ []
cond-none true = refl
cond-none false = refl

-- a symbol under a condition and an `if`
abbrev pub guard : Condition → SymId → Option Form → Guarded SymId
guard d u v = record { what = u; when = with_when d v }

module _ (l : Layout) (w : SelectOrImply) (s : SymId) where
  abbrev es : Entries
  es = l.entries

  abbrev ss : List Numbered
  ss = statements_in es

  -- What a line gives, by what it says and by its entry.
  abbrev facts_by : ℕ → Option Numbered → Option (Guarded SymId)
  facts_by at o = option_and_then (λ u.
      option_map (λ t. record { what = u; when = with_when (condition_at l (place_of l at).context.0) (t.2) }) (option_and_then target_of o)) (layout.symbol_at l at)

  abbrev gives_by : ℕ → Option Numbered → List (Guarded SymId)
  gives_by at o = cond (is_some (option_and_then (targets w s) o)) (listed (facts_by at o)) []

  abbrev gives : ℕ × ℕ → List (Guarded SymId)
  gives p = gives_by (p.0) (option_and_then (attribute_at es) (unstored (p.1)))

  abbrev pair : Selector → ℕ × ℕ
  pair r = (r.entry.0, r.attribute.0)

  abbrev by-row : Option Selector → List (Guarded SymId)
  by-row o = cond (is_some (option_and_then (targets w s) (option_and_then (line_in es) o))) (listed (option_and_then (selector_facts l) o)) []

  rows-give : selectors_up_to l w s (length l.selectors.items) ≡ flat_map (λ (r : Selector). gives (pair r)) l.selectors.items
  rows-give =
      flat-filter_map (λ j. option_and_then (selector_facts l) (slice_get l.selectors.items j)) (filter (names es l.selectors.items w s) (numbers (length l.selectors.items)))
      ∙ flat-filter (names es l.selectors.items w s) (λ j. listed (option_and_then (selector_facts l) (slice_get l.selectors.items j))) (numbers (length l.selectors.items))
      ∙ flat-get by-row l.selectors.items

  -- One line.
  line-gives : (d : Condition) (u : SymId) (x : Numbered) →
      cond (has_effect es x) (cond (is_some (targets w s x)) (listed (option_map (λ t. guard d u (t.2)) (target_of x))) []) []
      ≡ cond (can_be_target ss s) (listed (option_map (λ v. guard d u v) (targets w s x))) []
  line-gives d u x = by w x
    where
      named : (t : SymId) (v : Option Form) (b : Bool) → same_symbol t s ≡ b →
          cond (can_be_target ss t || false) (cond (is_some (cond b (Some v) None)) (guard d u v ∷ []) []) []
          ≡ cond (can_be_target ss s) (listed (option_map (λ z. guard d u z) (cond b (Some v) None))) []
      named t v true e =
          ap (λ c. cond c (guard d u v ∷ []) []) (or-false (can_be_target ss t) ∙ ap (can_be_target ss) (sym (same_is t s e)))
      named t v false e = cond-none (can_be_target ss t || false) ∙ sym (cond-none (can_be_target ss s))

      by : (k : SelectOrImply) (y : Numbered) →
          cond (has_effect es y) (cond (is_some (targets k s y)) (listed (option_map (λ t. guard d u (t.2)) (target_of y))) []) []
          ≡ cond (can_be_target ss s) (listed (option_map (λ v. guard d u v) (targets k s y))) []
      by word.Select (SelectLine t v) = named t v (same_symbol t s) refl
      by word.Imply (ImplyLine t v) = named t v (same_symbol t s) refl
      by word.Select y = cond-none (has_effect es y) ∙ sym (cond-none (can_be_target ss s))
      by word.Imply y = cond-none (has_effect es y) ∙ sym (cond-none (can_be_target ss s))

  -- One entry.
  entry-by : (e : ℕ) (o : Option SymId) → e < entry_count es → entry_symbol es e ≡ o →
      flat_map gives (effects_at es e) ≡ cond (can_be_target ss s) (naming_at ss (targets w s) (index_of es e)) []
  entry-by e None h q =
      ap (λ o. flat_map gives (cond (is_some o) (map (λ j. (suc e, suc (start_at es e + j))) (filter (has_effect_at es e) (numbers (length (said_by es e))))) [])) q
      ∙ sym (cond-none (can_be_target ss s))
      ∙ ap (λ o. cond (can_be_target ss s) (flat_map (λ u. map (guarded ss (index_of es e) u) (filter_map (targets w s) (attributes ss (index_of es e)))) (listed o)) []) (sym (symbol-is es e ∙ q))
  entry-by e (Some u) h q =
      let m = length (said_by es e) in
      let dep : condition_at l (place_of l (suc e)).context.0 ≡ dependency ss (index_of es e) = plain-dependency l e h (ap is_plain (config-by _ u q)) in
      let of_line : Option Numbered → List (Guarded SymId) = λ o. cond (list_any (has_effect es) (listed o)) (gives_by (suc e) o) [] in
      ap (λ o. flat_map gives (cond (is_some o) (map (λ j. (suc e, suc (start_at es e + j))) (filter (has_effect_at es e) (numbers (length (said_by es e))))) [])) q
      ∙ flat-map gives (λ j. (suc e, suc (start_at es e + j))) (filter (has_effect_at es e) (numbers (length (said_by es e))))
      ∙ flat-filter (has_effect_at es e) (λ j. gives (suc e, suc (start_at es e + j))) (numbers (length (said_by es e)))
      ∙ flat-below (λ j. cond (has_effect_at es e j) (gives (suc e, suc (start_at es e + j))) []) (λ j. of_line (slice_get (said_by es e) j)) (length (said_by es e))
      (λ j b. ap (λ o. cond (has_effect_at es e j) (gives_by (suc e) o) []) (attribute-said es e j h b))
      ∙ flat-get of_line (said_by es e)
      ∙ flat-each (λ x. of_line (Some x)) (λ x. cond (can_be_target ss s) (listed (option_map (guarded ss (index_of es e) u) (targets w s x))) [])
      (λ x. (λ j. cond (or-false (has_effect es x) j) (cond (is_some (targets w s x)) (listed (option_and_then (λ v. option_map (λ t. guard (dep j) v (t.2)) (target_of x)) (q j))) []) [])
      ∙ line-gives (dependency ss (index_of es e)) u x) (said_by es e)
      ∙ flat-pulled (can_be_target ss s) (λ x. listed (option_map (guarded ss (index_of es e) u) (targets w s x))) (said_by es e)
      ∙ ap (λ r. cond (can_be_target ss s) r [])
      (sym (flat-filter_map (λ x. option_map (guarded ss (index_of es e) u) (targets w s x)) (said_by es e))
      ∙ sym (map-filter_map (guarded ss (index_of es e) u) (targets w s) (λ x. option_map (guarded ss (index_of es e) u) (targets w s x)) (λ x. refl) (said_by es e))
      ∙ ap (λ own. map (guarded ss (index_of es e) u) (filter_map (targets w s) own)) (sym (attributes-is es e))
      ∙ sym (append-nil (map (guarded ss (index_of es e) u) (filter_map (targets w s) (attributes ss (index_of es e))))))
      ∙ ap (λ o. cond (can_be_target ss s) (flat_map (λ v. map (guarded ss (index_of es e) v) (filter_map (targets w s) (attributes ss (index_of es e)))) (listed o)) []) (sym (symbol-is es e ∙ q))

  -- All lines.
  no-line : (i : ℕ) (t : Numbered) → slice_get ss i ≡ Some t → is_attribute t ≡ true → naming_at ss (targets w s) i ≡ []
  no-line i t h a = ap (λ o. flat_map (λ u. map (guarded ss i u) (filter_map (targets w s) (attributes ss i))) (listed o)) (ap (option_and_then defined_name) h ∙ no-name t a)

  pub lines-are : selectors_up_to l w s (length l.selectors.items) ≡ cond (can_be_target ss s) (flat_map (naming_at ss (targets w s)) (numbers (length ss))) []
  lines-are =
      rows-give
      ∙ sym (flat-map gives pair l.selectors.items)
      ∙ ap (flat_map gives) l.laid.effects
      ∙ flat-flat gives (effects_at es) (entry_numbers es)
      ∙ flat-below (λ e. flat_map gives (effects_at es e)) (λ e. cond (can_be_target ss s) (naming_at ss (targets w s) (index_of es e)) []) (entry_count es) (λ e h. entry-by e (entry_symbol es e) h refl)
      ∙ flat-pulled (can_be_target ss s) (λ e. naming_at ss (targets w s) (index_of es e)) (entry_numbers es)
      ∙ ap (λ r. cond (can_be_target ss s) r []) (sym (flat-entries es (naming_at ss (targets w s)) no-line))
