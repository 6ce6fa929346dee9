-- Lists over all lines of which attributes are no part, by the entries alone.
use Rattle.std.proofs.{Common.{Bool, List, None, Option, Some, [], ap, arith, cond, false, filter, length, map, refl, sym, true, ℕ, ◌∙◌, ◌∷◌, ◌≡◌, ◌≤◌}, lemmas.List.{Sums.length-filter, length-map}}
use Rattle.std.specs.{List.slice_get, Option.option_and_then, Prelude.count_by}
use Rattle.kc_language.specs.{Expansion.{NoBracket, bracket, defined_name, is_attribute, numbers, opened}, Statements.{ChoiceLine, ConfigLine, Numbered}, Symbols.{choice_number, definitions_of, is_block, is_symbol_of, of_block, symbol_at}, declared.{expressions.SymId.SymId, statements.Block.Block}}
use Rattle.kc_entries.specs.declared.entries.Entries.{Entries}
use Rattle.kc_tree.specs.EntryViews.{begins_choice, definitions_from, entry_count, entry_numbers, entry_symbol, index_of, is_choice_line, statements_in}
use Rattle.kc_tree.proofs.{IndexLemmas.{flat-before, head-is, index-end, symbol-is}, ListLemmas.{filter-below, flat-filter, flat-one, flat-same, numbers-range}}

module _ (es : Entries) (q : ℕ → Bool) (of : (i : ℕ) (s : Numbered) → slice_get (statements_in es) i ≡ Some s → is_attribute s ≡ true → q i ≡ false) where
  pub filter-before : (e : ℕ) → e ≤ entry_count es → filter q (numbers (index_of es e)) ≡ map (index_of es) (filter (λ k. q (index_of es k)) (numbers e))
  filter-before e h =
      sym (flat-same (filter q (numbers (index_of es e))))
      ∙ flat-filter q (λ i. i ∷ []) (numbers (index_of es e))
      ∙ flat-before es (λ i. cond (q i) (i ∷ []) []) (λ i s g a. ap (λ b. cond b (i ∷ []) []) (of i s g a)) e h
      ∙ sym (flat-filter (λ k. q (index_of es k)) (λ k. index_of es k ∷ []) (numbers e))
      ∙ sym (flat-one (index_of es) (filter (λ k. q (index_of es k)) (numbers e)))

  pub filter-entries : filter q (numbers (length (statements_in es))) ≡ map (index_of es) (filter (λ k. q (index_of es k)) (numbers (entry_count es)))
  filter-entries = ap (λ n. filter q (numbers n)) (sym (index-end es)) ∙ filter-before (entry_count es) (omega arith)

  pub count-before : (e : ℕ) → e ≤ entry_count es → count_by q (numbers (index_of es e)) ≡ count_by (λ k. q (index_of es k)) (numbers e)
  count-before e h =
      sym (length-filter q (numbers (index_of es e))) ∙ ap length (filter-before e h)
      ∙ length-map (filter (λ k. q (index_of es k)) (numbers e)) (index_of es)
      ∙ length-filter (λ k. q (index_of es k)) (numbers e)

pub no-name : (s : Numbered) → is_attribute s ≡ true → defined_name s ≡ None
no-name (ConfigLine t) h = absurd cc
no-name _ h = refl

-- Whether a line begins a choice.
begins-by : (o : Option Numbered) → is_block Block.Choice (opened (elim o [ None ↦ NoBracket | Some s ↦ bracket s ])) ≡ is_choice_line o
begins-by (Some ChoiceLine) = refl
begins-by _ = refl

no-choice : (s : Numbered) → is_attribute s ≡ true → is_block Block.Choice (opened (bracket s)) ≡ false
no-choice ChoiceLine h = absurd cc
no-choice _ h = refl

module _ (es : Entries) where
  abbrev ss : List Numbered
  ss = statements_in es

  -- the definitions of a symbol
  pub definitions-numbers : (s : SymId) → definitions_from es s 0 ≡ filter (λ k. is_symbol_of s (entry_symbol es k)) (entry_numbers es)
  definitions-numbers s = ap (filter (λ k. is_symbol_of s (entry_symbol es k))) (numbers-range (entry_count es))

  pub definitions-at : (s : SymId) → definitions_of ss s ≡ map (index_of es) (definitions_from es s 0)
  definitions-at s =
      filter-entries es (λ i. is_symbol_of s (symbol_at ss i)) (λ i t h a. ap (is_symbol_of s) (ap (option_and_then defined_name) h ∙ no-name t a))
      ∙ ap (map (index_of es)) (filter-below (λ k. is_symbol_of s (symbol_at ss (index_of es k))) (λ k. is_symbol_of s (entry_symbol es k)) (entry_count es) (λ k b. ap (is_symbol_of s) (symbol-is es k)))
      ∙ ap (map (index_of es)) (sym (definitions-numbers s))

  not-attribute : (i : ℕ) (s : Numbered) → slice_get ss i ≡ Some s → is_attribute s ≡ true → of_block ss Block.Choice i ≡ false
  not-attribute i s h a = ap (λ o. is_block Block.Choice (opened (elim o [ None ↦ NoBracket | Some t ↦ bracket t ]))) h ∙ no-choice s a

  pub choice-begins : (e : ℕ) → of_block ss Block.Choice (index_of es e) ≡ begins_choice es e
  choice-begins e = begins-by (slice_get ss (index_of es e)) ∙ ap is_choice_line (head-is es e)

  -- the lines that begin choices
  pub choice-lines : filter (of_block ss Block.Choice) (numbers (length ss)) ≡ map (index_of es) (filter (begins_choice es) (entry_numbers es))
  choice-lines =
      filter-entries es (of_block ss Block.Choice) not-attribute
      ∙ ap (map (index_of es)) (filter-below (λ k. of_block ss Block.Choice (index_of es k)) (begins_choice es) (entry_count es) (λ k b. choice-begins k))

  -- so many begin before an entry
  pub choice-number : (e : ℕ) → e ≤ entry_count es → choice_number ss (index_of es e) ≡ count_by (begins_choice es) (numbers e)
  choice-number e h =
      count-before es (of_block ss Block.Choice) not-attribute e h
      ∙ sym (length-filter (λ k. of_block ss Block.Choice (index_of es k)) (numbers e))
      ∙ ap length (filter-below (λ k. of_block ss Block.Choice (index_of es k)) (begins_choice es) e (λ k b. choice-begins k))
      ∙ length-filter (begins_choice es) (numbers e)
