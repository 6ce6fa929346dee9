-- Whether a symbol has a prompt, by its definitions.
use Rattle.std.proofs.Common.{◌≡◌, ◌||◌, ◌+◌, ◌<◌, ℕ, zero, suc, Bool, true, false, List, [], ◌∷◌, length, map, option_map, Option, Some, None, refl, sym, ◌∙◌, ap, subst, arith}
use Rattle.std.specs.Prelude.{slice_get, is_some}
use Rattle.std.specs.Option.{option_and_then}
use Rattle.std.specs.List.{filter_map, cons_option}
use Rattle.kc_language.specs.Symbols.{Condition, prompt_of}
use Rattle.kc_language.specs.Texts.{has_prompt}
use Rattle.kc_language.specs.declared.expressions.SymId.{SymId}
use Rattle.kc_entries.specs.StatementViews.{attribute_view}
use Rattle.kc_tree.specs.declared.layout.Layout.{Layout}
use Rattle.kc_tree.specs.declared.rows.Symbol.{Symbol}
use Rattle.kc_entries.specs.Entries.{start_at}
use Rattle.kc_tree.specs.EntryViews.{definitions_from, entry_count, said_by}
use Rattle.kc_tree.specs.Layouts.{DefinitionFacts, attribute_in, definition_facts, definitions_at, place_of, prompt_in}
use Rattle.kc_tree.specs.Places.{last_said}
use Rattle.kc_tree.specs.Stored.{stored, unstored}
use Rattle.kc_tree.proofs.DefinitionLemmas.{own-at}
use Rattle.kc_tree.proofs.LayoutWalks.{IsDefinition, IsDefinitionAt, definition-next, definition-next-at, definitions-first}
use Rattle.kc_tree.proofs.OuterLemmas.{place-is}
use Rattle.kc_tree.proofs.WalkLemmas.{last-there}

module _ (l : Layout) where
  -- whether the attribute with a number is a prompt; the number of the attribute that is so many behind the first one of an entry
  abbrev found : ℕ → Bool
  found at = is_some (option_and_then prompt_of (option_map attribute_view (attribute_in l at)))

  abbrev number : ℕ → Option ℕ → ℕ
  number k o = stored (option_map (λ j. start_at l.entries k + j) o)

  -- the place of an entry says whether it has a prompt
  place_prompted : (k : ℕ) → k < entry_count l.entries → is_some (unstored (place_of l (suc k)).prompt.0) ≡ is_some (prompt_in l (place_of l (suc k)))
  place_prompted k h = by (last_said prompt_of (said_by l.entries k)) refl
    where
      by : (o : Option ℕ) → last_said prompt_of (said_by l.entries k) ≡ o → is_some (unstored (place_of l (suc k)).prompt.0) ≡ is_some (prompt_in l (place_of l (suc k)))
      by None q =
          let at : (place_of l (suc k)).prompt.0 ≡ 0 = (place-is l k h).prompt ∙ ap (number k) q in
          ap (λ n. is_some (unstored n)) at ∙ sym (ap found at)
      by (Some j) q =
          let at : (place_of l (suc k)).prompt.0 ≡ suc (start_at l.entries k + j) = (place-is l k h).prompt ∙ ap (number k) q in
          let last = last-there (λ j. is_some (option_and_then prompt_of (slice_get (said_by l.entries k) j))) (length (said_by l.entries k)) j (ap (λ o. unstored (stored o)) q) in
          ap (λ n. is_some (unstored n)) at
          ∙ sym (ap found at ∙ ap (λ o. is_some (option_and_then prompt_of o)) (own-at l k j h last.below) ∙ last.passes)

  -- whether one of the definitions from here on has a prompt
  module _ (s : SymId) where
    abbrev pub has_from : ℕ → Bool
    has_from at = has_prompt (filter_map (λ (d : DefinitionFacts). d.prompt) (map (definition_facts l) (definitions_at l s at)))

    first_prompt : (p : Option Condition) (r : List Condition) → has_prompt (cons_option p r) ≡ (is_some p || has_prompt r)
    first_prompt None r = refl
    first_prompt (Some c) r = refl

    some_same : {A B : Type 0} (f : A → B) (o : Option A) → is_some (option_map f o) ≡ is_some o
    some_same f None = refl
    some_same f (Some x) = refl

    pub prompt_next : (k : ℕ) → IsDefinition l s k →
        has_from (suc k) ≡ (is_some (unstored (place_of l (suc k)).prompt.0) || has_from (place_of l (suc k)).next.0)
    prompt_next k d =
        let next = (place_of l (suc k)).next.0 in
        ap (λ ks. has_prompt (filter_map (λ (d : DefinitionFacts). d.prompt) (map (definition_facts l) ks))) (definition-next l s k d)
        ∙ first_prompt (definition_facts l k).prompt _
        ∙ ap (λ b. b || has_from next) (some_same _ (prompt_in l (place_of l (suc k))) ∙ sym (place_prompted k d.there))

    pub prompt_end : (at : ℕ) → is_some (unstored at) ≡ false → has_from at ≡ false
    prompt_end at none = by (unstored at) none
      where
        by : (o : Option ℕ) → is_some o ≡ false → has_prompt (filter_map (λ (d : DefinitionFacts). d.prompt) (map (definition_facts l) (elim o [ None ↦ [] | Some k ↦ definitions_from l.entries s k ]))) ≡ false
        by None e = refl
        by (Some k) e = absurd (let clash : true ≡ false = e in cc)

    -- one more definition, which leads on to `next`
    pub record IsPromptStep (at next : ℕ) : Type 0 where
      pub says : has_from at ≡ (is_some (unstored (place_of l at).prompt.0) || has_from next)
      pub defines : IsDefinitionAt l s next
      pub smaller : length (definitions_at l s next) < length (definitions_at l s at)

    pub prompt_step : (at next : ℕ) → is_some (unstored at) ≡ true → IsDefinitionAt l s at → next ≡ (place_of l at).next.0 → IsPromptStep at next
    prompt_step zero next there defines e = absurd cc
    prompt_step (suc k) next there defines e =
        let d : IsDefinition l s k = defines k refl in
        let many = ap length (definition-next l s k d ∙ sym (ap (λ n. k ∷ definitions_at l s n) e)) in
        record {
          says = prompt_next k d ∙ sym (ap (λ n. is_some (unstored (place_of l (suc k)).prompt.0) || has_from n) e);
          defines = subst (IsDefinitionAt l s) (sym e) (definition-next-at l s k d);
          smaller = omega (arith, many);
        }

    -- from its first definition on, it is whether the symbol has a prompt
    pub prompt_first : (row : Symbol) → slice_get l.symbols.items s.0 ≡ Some row →
        has_from row.first.0 ≡ has_prompt (filter_map (λ (d : DefinitionFacts). d.prompt) (map (definition_facts l) (definitions_from l.entries s 0)))
    prompt_first row h = ap (λ ks. has_prompt (filter_map (λ (d : DefinitionFacts). d.prompt) (map (definition_facts l) ks))) (definitions-first l s.0 row h)
