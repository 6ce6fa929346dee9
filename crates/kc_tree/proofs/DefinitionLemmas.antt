-- What the definitions of a symbol say, by the places of their entries.
use Rattle.std.proofs.{Common.{Bool, List, None, Option, Some, [], ap, arith, cond, false, filter, length, map, refl, suc, sym, true, ℕ, ◌++◌, ◌+◌, ◌-◌, ◌<◌, ◌∙◌, ◌≡◌}, lemmas.List.append-nil}
use Rattle.std.specs.{List.{filter_map, flat_map, slice_get}, Option.option_and_then, Prelude.option_map}
use Rattle.kc_language.specs.{Expansion.{attributes, defined_name, enclosing, last_of, numbers}, Statements.{ChoiceLine, ConfigLine, IfLine, Numbered, RangeLine}, Symbols.{block_conjuncts, choice_number, definitions_of, dependency, dependency_in, enclosing_choice, guarded, is_symbol_of, own_visible, prompt_at, prompt_of, range_in, stated_default}, declared.expressions.SymId.SymId}
use Rattle.kc_entries.specs.{Entries.start_at, PartsOfSymbols.enclosing_visible, StatementViews.attribute_view, declared.{entries.{AttributeLine.AttributeLine, Entries.Entries}, statement.Attribute.Attribute}}
use Rattle.kc_entries.proofs.{ElementLemmas.same_is, ListLemmas.map-filter_map}
use Rattle.kc_tree.specs.{EntryViews.{definitions_from, entry_count, entry_symbol, head_at, index_of, said_by, statements_in}, Layouts.{DefinitionFacts, asked_by, attribute_in, condition_at, default_view, definition_facts, mode_in, place_of, prompt_in, prompt_view, range_view, visible_at}, Places.{last_said, shows}, Stored.stored, declared.layout.Layout.Layout}
use Rattle.kc_tree.specs.EntryViews as entries
use Rattle.kc_tree.proofs.{EntryListLemmas.{definitions-at, definitions-numbers}, IndexLemmas.{attribute-said, attributes-is, head-is}, ListLemmas.{last-below, last-kept, map-kept, map-map_is}, OuterLemmas.{condition-there, context-same, place-is}, VisibleLemmas.visible-is}

-- ---- Entries that are neither an `if` nor a choice
abbrev pub is_plain : Option Numbered → Bool
is_plain (Some (IfLine e)) = false
is_plain (Some ChoiceLine) = false
is_plain _ = true

pub plain-asks : (o : Option Numbered) (own : List Numbered) → is_plain o ≡ true → asked_by o own ≡ filter_map dependency_in own
plain-asks (Some (IfLine e)) own h = absurd cc
plain-asks (Some ChoiceLine) own h = absurd cc
plain-asks _ own h = refl

pub plain-mode : (o : Option Numbered) (k : ℕ) (m : Option ℕ) → is_plain o ≡ true → mode_in o k m ≡ m
plain-mode (Some (IfLine e)) k m h = absurd cc
plain-mode (Some ChoiceLine) k m h = absurd cc
plain-mode _ k m h = refl

pub config-by : (o : Option Numbered) (s : SymId) → option_and_then defined_name o ≡ Some s → o ≡ Some (ConfigLine s)
config-by (Some (ConfigLine t)) s h = let same : t ≡ s = cc in ap (λ u. Some (ConfigLine u)) same
config-by _ s h = absurd cc

pub defines-is : (s : SymId) (o : Option SymId) → is_symbol_of s o ≡ true → o ≡ Some s
defines-is s None h = absurd cc
defines-is s (Some t) h = ap Some (same_is s t h)

pub symbol-by : (s : SymId) (o : Option SymId) → is_symbol_of s o ≡ true → (t : SymId) × (o ≡ Some t)
symbol-by s o h = (s, defines-is s o h)

module _ (l : Layout) where
  abbrev es : Entries
  es = l.entries

  abbrev ss : List Numbered
  ss = statements_in es

  -- what the language says of the definition at an index
  abbrev pub said_of : ℕ → DefinitionFacts
  said_of i = record {
    dependency = dependency ss i;
    prompt = prompt_at ss i;
    defaults = map (λ g. guarded ss i g.value g.when) (filter_map stated_default (attributes ss i));
    ranges = filter_map (λ s. elim s [ RangeLine a b w ↦ Some (guarded ss i (record { low = a; high = b }) w) | _ ↦ None ]) (attributes ss i);
  }

  pub plain-dependency : (e : ℕ) → e < entry_count es → is_plain (head_at es e) ≡ true → condition_at l (place_of l (suc e)).context.0 ≡ dependency ss (index_of es e)
  plain-dependency e h p =
      let i = index_of es e in
      let plain : is_plain (slice_get ss i) ≡ true = ap is_plain (head-is es e) ∙ p in
      sym (context-same l (suc e) (omega (arith, h))) ∙ condition-there l e h
      ∙ (λ j. record {
        conjuncts = flat_map (block_conjuncts ss) (enclosing ss i) ++ plain-asks (slice_get ss i) (attributes ss i) plain j;
        mode = plain-mode (slice_get ss i) (choice_number ss i) (enclosing_choice ss i) plain j;
      })

  -- the attribute that is so many behind the first one of an entry
  pub own-at : (e j : ℕ) → e < entry_count es → j < length (said_by es e) → option_map (λ (a : Attribute). attribute_view a) (attribute_in l (suc (start_at es e + j))) ≡ slice_get (said_by es e) j
  own-at e j h b = both (slice_get es.attributes.items (start_at es e + j)) ∙ attribute-said es e j h b
    where
      both : (o : Option AttributeLine) → option_map (λ (a : Attribute). attribute_view a) (option_map (λ (a : AttributeLine). a.attribute) o) ≡ option_map (λ (a : AttributeLine). attribute_view a.attribute) o
      both None = refl
      both (Some a) = refl

  prompt-by : (e : ℕ) (o : Option ℕ) → e < entry_count es → last_said prompt_of (said_by es e) ≡ o →
      option_and_then prompt_of (option_map attribute_view (attribute_in l (stored (option_map (λ j. start_at es e + j) o)))) ≡ option_and_then (λ j. option_and_then prompt_of (slice_get (said_by es e) j)) o
  prompt-by e None h q = refl
  prompt-by e (Some j) h q = ap (option_and_then prompt_of) (own-at e j h (last-below prompt_of (said_by es e) j q))

  -- the prompt that counts
  pub prompt-is : (e : ℕ) → e < entry_count es → prompt_in l (place_of l (suc e)) ≡ last_of (filter_map prompt_of (said_by es e))
  prompt-is e h =
      ap (λ a. option_and_then prompt_of (option_map attribute_view (attribute_in l a))) ((place-is l e h).prompt)
      ∙ prompt-by e (last_said prompt_of (said_by es e)) h refl
      ∙ last-kept prompt_of (said_by es e)

  -- ---- A `config` entry says what the language says of it
  pub config-visible : (e : ℕ) (s : SymId) → e < entry_count es → entry_symbol es e ≡ Some s → visible_at l (place_of l (suc e)).visible.0 ≡ enclosing_visible ss (index_of es e)
  config-visible e s h d =
      visible-is l e h
      ∙ ap (λ o. enclosing_visible ss (index_of es e) ++ cond (shows o (said_by es e)) (own_visible ss (index_of es e)) []) (config-by (head_at es e) s d)
      ∙ append-nil (enclosing_visible ss (index_of es e))

  range-said : (i : ℕ) (s : Numbered) →
      elim s [ RangeLine a b w ↦ Some (guarded ss i (record { low = a; high = b }) w) | _ ↦ None ] ≡ option_map (range_view (dependency ss i)) (range_in s)
  range-said i (RangeLine a b w) = refl
  range-said i _ = refl

  pub definition-is : (e : ℕ) (s : SymId) → e < entry_count es → entry_symbol es e ≡ Some s → definition_facts l e ≡ said_of (index_of es e)
  definition-is e s h d =
      let i = index_of es e in
      let plain : is_plain (head_at es e) ≡ true = ap is_plain (config-by (head_at es e) s d) in
      let depends = plain-dependency e h plain in
      let visible = config-visible e s h d in
      let own = sym (attributes-is es e) in
      let prompt = prompt-is e h ∙ ap (λ r. last_of (filter_map prompt_of r)) (sym (attributes-is es e)) in
      let ranges =
      ap (λ d. map (range_view d) (filter_map range_in (said_by es e))) depends
      ∙ ap (λ r. map (range_view (dependency ss (index_of es e))) (filter_map range_in r)) (sym (attributes-is es e))
      ∙ map-filter_map (range_view (dependency ss (index_of es e))) range_in _ (λ s. sym (range-said (index_of es e) s)) (attributes ss (index_of es e)) in
      λ j. record {
        dependency = depends j;
        prompt = option_map (prompt_view (depends j) (visible j)) (prompt j);
        defaults = map (default_view (depends j)) (filter_map stated_default (own j));
        ranges = ranges j;
      }

  -- ---- All definitions of a symbol
  pub definitions-are : (s : SymId) → map said_of (definitions_of ss s) ≡ map (definition_facts l) (definitions_from es s 0)
  definitions-are s =
      ap (map said_of) (definitions-at es s ∙ ap (map (index_of es)) (definitions-numbers es s))
      ∙ map-map_is said_of (index_of es) (filter (λ k. is_symbol_of s (entry_symbol es k)) (numbers (entry_count es)))
      ∙ map-kept (λ k. is_symbol_of s (entry_symbol es k)) (λ k. said_of (index_of es k)) (definition_facts l) (entry_count es)
      (λ k b t. sym (definition-is k s b (defines-is s (entry_symbol es k) t)))
      ∙ ap (map (definition_facts l)) (sym (definitions-numbers es s))
