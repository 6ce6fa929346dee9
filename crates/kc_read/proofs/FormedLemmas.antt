-- What holds of the facts that numbered lines give, where none of them is refused.
use Rattle.std.proofs.{Common.{List, None, Option, Some, [], ap, arith, if◌then◌else◌, length, length-take, map, refl, sym, take, ℕ, ◌<◌, ◌∙◌, ◌≡◌, ◌≤◌}, lemmas.List.Elements.{All-append, All-nil}}
use Rattle.std.specs.{List.{filter_map, flat_map, slice_get}, Prelude.{All, option_map}}
use Rattle.kc_language.specs.{Expansion.{attributes, last_of, numbers}, Expressions.{Form, symbol}, Statements.{InputPrompt, Located, Numbered, RangeLine}, Symbols.{Bounds, Condition, Guarded, TreeFacts, can_be_target, definitions_of, dependency, enclosing_choice, facts_with, indices, listed, naming_at, prompt_at, prompt_of, stated_default, symbol_at, symbol_facts}, declared.expressions.SymId.SymId}
use Rattle.kc_entries.specs.{ListFacts.AreBelow, PartsOfSymbols.{choices, defaults_at, guarded_default, guarded_range, guarded_symbol, imply_of, prompt_condition, select_of}, WellFormed.{AreLinesSound, IsMentioned, IsModeBelow}}
use Rattle.kc_entries.proofs.{ElementLemmas.{All-filter_map, All-flat_map, All-if, All-map_each}, PlaceLemmas.{get-map_numbers, length-map_numbers}}
use Rattle.kc_read.proofs.SoundLemmas.{mode_below}

-- Conditions: the choice whose mode they name is there.
module _ (ss : List Numbered) where
  abbrev pub IsSound : Condition → Type 0
  IsSound = IsModeBelow (length (choices ss))

  pub few_taken : (i : ℕ) → length (take i ss) ≤ length ss
  few_taken i = simp length-take (omega arith)

  pub sound_at : (i : ℕ) (c : Condition) → c.mode ≡ enclosing_choice ss i → IsSound c
  sound_at i c e k h = mode_below ss i k (few_taken i) (sym e ∙ h)

  asked_mode : (i : ℕ) (o : Option (InputPrompt Form)) (c : Condition) → option_map (prompt_condition ss i) o ≡ Some c → c.mode ≡ enclosing_choice ss i
  asked_mode i None c h = absurd cc
  asked_mode i (Some p) c h = let same : prompt_condition ss i p ≡ c = cc in sym (ap (λ (d : Condition). d.mode) same)

  pub prompt_mode : (i : ℕ) (c : Condition) → prompt_at ss i ≡ Some c → c.mode ≡ enclosing_choice ss i
  prompt_mode i c h = asked_mode i (last_of (filter_map prompt_of (attributes ss i))) c h

  range_mode : (i : ℕ) (s : Numbered) (g : Guarded Bounds) → guarded_range ss i s ≡ Some g → g.when.mode ≡ enclosing_choice ss i
  range_mode i (RangeLine a b w) g h = let same : Some (enclosing_choice ss i) ≡ Some g.when.mode =
      ap (option_map (λ (x : Guarded Bounds). x.when.mode)) h in (let e : enclosing_choice ss i ≡ g.when.mode = cc in sym e)
  range_mode i _ g h = absurd cc

-- Symbols and their lines.
module _ (names : List (List ℕ)) (ls : List (Located Numbered)) where
  abbrev pub line_statements : List Numbered
  line_statements = map (λ l. l.statement) ls

  abbrev pub tree : TreeFacts
  tree = facts_with names ls

  pub mentioned_if : (s : SymId) → s.0 < length names → IsMentioned tree s
  mentioned_if s h = let n = length-map_numbers (λ i. symbol_facts line_statements (symbol i)) (length names) in omega arith

  pub facts_at : (i : ℕ) → i < length names → slice_get tree.symbols i ≡ Some (symbol_facts line_statements (symbol i))
  facts_at i h = get-map_numbers (λ i. symbol_facts line_statements (symbol i)) (length names) i h

  abbrev NamesSound : Guarded SymId → Type 0
  NamesSound g = IsMentioned tree g.what × IsModeBelow (length tree.choices) g.when

  module _ (below : AreBelow (length names) line_statements) where
    names_by : (line : Numbered → Option (Option Form)) (i : ℕ) (o : Option SymId) → symbol_at line_statements i ≡ o →
        All NamesSound (flat_map (λ s. map (guarded_symbol line_statements i s) (filter_map line (attributes line_statements i))) (listed o))
    names_by line i None e = All-nil NamesSound
    names_by line i (Some s) e =
        let d = mentioned_if s (below i s e) in
        All-append NamesSound (map (guarded_symbol line_statements i s) (filter_map line (attributes line_statements i))) []
        (All-map_each NamesSound (guarded_symbol line_statements i s) (λ w. (d, sound_at line_statements i (guarded_symbol line_statements i s w).when refl))
        (filter_map line (attributes line_statements i))) (All-nil NamesSound)

    names_sound : (line : Numbered → Option (Option Form)) (t : SymId) →
        All NamesSound (if can_be_target line_statements t then flat_map (naming_at line_statements line) (indices line_statements) else [])
    names_sound line t =
        All-if NamesSound (can_be_target line_statements t) (flat_map (naming_at line_statements line) (indices line_statements))
        (All-flat_map NamesSound (naming_at line_statements line) (λ i. names_by line i (symbol_at line_statements i) refl) (indices line_statements))

    lines_sound : (s : SymId) → AreLinesSound tree (symbol_facts line_statements s)
    lines_sound s = record {
      dependencies = All-map_each (IsSound line_statements) (dependency line_statements) (λ i. sound_at line_statements i (dependency line_statements i) refl) (definitions_of line_statements s);
      prompts = All-filter_map (IsSound line_statements) (prompt_at line_statements) (λ i c h. sound_at line_statements i c (prompt_mode line_statements i c h)) (definitions_of line_statements s);
      defaults = All-flat_map (λ (g : Guarded Form). IsSound line_statements g.when) (defaults_at line_statements)
          (λ i. All-map_each (λ (g : Guarded Form). IsSound line_statements g.when) (guarded_default line_statements i)
          (λ g. sound_at line_statements i (guarded_default line_statements i g).when refl)
          (filter_map stated_default (attributes line_statements i))) (definitions_of line_statements s);
      ranges = All-flat_map (λ (g : Guarded Bounds). IsSound line_statements g.when) (λ i. filter_map (guarded_range line_statements i) (attributes line_statements i))
          (λ i. All-filter_map (λ (g : Guarded Bounds). IsSound line_statements g.when) (guarded_range line_statements i)
          (λ x g h. sound_at line_statements i g.when (range_mode line_statements i x g h))
          (attributes line_statements i)) (definitions_of line_statements s);
      selectors = names_sound (select_of s) s;
      impliers = names_sound (imply_of s) s;
    }

    pub all_sound : All (AreLinesSound tree) tree.symbols
    all_sound = All-map_each (AreLinesSound tree) (λ i. symbol_facts line_statements (symbol i)) (λ i. lines_sound (symbol i)) (numbers (length names))
