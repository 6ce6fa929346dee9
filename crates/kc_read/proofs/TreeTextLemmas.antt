-- The texts of a tree are those of the expanded list.
use Rattle.std.proofs.{Common.{Bool, List, None, Option, Some, [], ap, arith, codes, drop, false, if◌then◌else◌, length, map, refl, subst, suc, true, ℕ, ◌++◌, ◌==◌, ◌∷◌, ◌≡◌}, lemmas.List.Elements.{All-append, All-cons, All-contains, All-drop, All-from_recursion, All-head, All-map, All-nil, All-push, All-tail, All-take}}
use Rattle.std.specs.{List.{filter_map, flat_map, list_any, prefix_len, slice_get}, Option.{IfSome, unwrap_or}, Prelude.{All, option_map}}
use Rattle.kc_language.specs.{Expansion.{attributes, is_attribute, last_of, mentioned_names, numbered_lines, numbers}, Expressions.{Form, all_mentioned, mention, number_of, same_name, symbol}, Statements.{CommentLine, ConfigLine, DefLine, DefaultLine, EndMenuLine, Located, MainMenuLine, MenuLine, Named, Numbered, names_in_statement, numbered, statements}, Symbols.{CommentShown, EndShown, Guarded, MenuShown, Shown, StatedDefault, SymbolFacts, SymbolShown, TreeFacts, definitions_of, dependency, facts_with, indices, is_first_definition, shown_at, stated_default, symbol_facts}, declared.expressions.SymId.SymId}
use Rattle.kc_entries.specs.{PartsOfExpansion.located_numbered, PartsOfSymbols.{defaults_at, enclosing_block, guarded_default, shown_number, shown_when, title_of}, WellFormed.{HasLineTexts, IsLineForm, IsLineText, OfTitle}}
use Rattle.kc_entries.proofs.ElementLemmas.{All-at, All-cons_option, All-flat_map, All-map_each, filter_map-from}
use Rattle.kc_read.proofs.ReadTextLemmas.{HasTexts, IsInLines, IsLineValue}

-- The names that are mentioned.
mentioned_one : (names : List (List ℕ)) (w : List ℕ) → All IsLineText names → IsLineText w → All IsLineText (mention names w)
mentioned_one names w h l = by (list_any (same_name w) names)
  where
    by : (b : Bool) → All IsLineText (if b then names else names ++ w ∷ [])
    by true = h
    by false = All-push IsLineText names w h l

mentioned_all : (names ws : List (List ℕ)) → All IsLineText names → All IsLineText ws → All IsLineText (all_mentioned names ws)
mentioned_all names [] h k = h
mentioned_all names (w ∷ ws) h k =
    mentioned_all (mention names w) ws (mentioned_one names w h (All-head IsLineText w ws k)) (All-tail IsLineText w ws k)

statement_names : (ss : List Named) → All IsInLines ss → All IsLineText (flat_map names_in_statement ss)
statement_names [] h = All-nil IsLineText
statement_names (s ∷ ss) h = All-append IsLineText (names_in_statement s) (flat_map names_in_statement ss) (All-head IsInLines s ss h).names (statement_names ss (All-tail IsInLines s ss h))

-- a plain text, byte by byte
main_menu_words : IsLineText (codes "Main menu")
main_menu_words =
    let long : length (codes "Main menu") ≡ 9 = refl in
    record { within = omega arith; one_line = All-from_recursion (λ b. (b == 10) ≡ false) (codes "Main menu") (refl, (refl, (refl, (refl, (refl, (refl, (refl, (refl, (refl, tt))))))))) }

unless_named : (o : Option (List ℕ)) (d : List ℕ) → IfSome o IsLineText → IsLineText d → IsLineText (unwrap_or o d)
unless_named None d h k = k
unless_named (Some n) d h k = h

name_lines : (ss : List Named) → All IsInLines ss → All IsLineText (mentioned_names ss)
name_lines ss h = mentioned_all [] (flat_map names_in_statement ss) (All-nil IsLineText) (statement_names ss h)

-- The numbered statements.
abbrev IsLineNumbered : Numbered → Type 0
IsLineNumbered s = HasTexts IsLineForm s

numbered_texts : (number : List ℕ → ℕ) (s : Named) → HasTexts IsLineValue s → IsLineNumbered (numbered number s)
numbered_texts number (CommentLine t) h = h
numbered_texts number (MenuLine t) h = h
numbered_texts number (MainMenuLine t) h = h
numbered_texts number (DefaultLine v w) h = h number
numbered_texts number (DefLine k v w) h = h number
numbered_texts number _ h = tt

module _ (ss : List Numbered) (texts : All IsLineNumbered ss) where
  -- entries
  text_at : (p : ℕ) (s : Numbered) → slice_get ss p ≡ Some s → IsLineNumbered s
  text_at p s e = All-at IsLineNumbered ss p s texts e

  first_shown : (s : SymId) (e : Shown) (b : Bool) → (if b then Some (SymbolShown s) else None) ≡ Some e → OfTitle IsLineText e
  first_shown s e false h = absurd cc
  first_shown s e true h = let same : SymbolShown s ≡ e = cc in subst (OfTitle IsLineText) same tt

  end_shown : (o : Option ℕ) (e : Shown) → option_map (λ j. EndShown (shown_number ss j)) o ≡ Some e → OfTitle IsLineText e
  end_shown None e h = absurd cc
  end_shown (Some j) e h = let same : EndShown (shown_number ss j) ≡ e = cc in subst (OfTitle IsLineText) same tt

  shown_by : (p : ℕ) (o : Option Numbered) (e : Shown) → slice_get ss p ≡ o → shown_at ss p o ≡ Some e → OfTitle IsLineText e
  shown_by p (Some (ConfigLine s)) e at h = first_shown s e (is_first_definition ss p s) h
  shown_by p (Some (MenuLine t)) e at h =
      let same : MenuShown t (shown_when ss p) ≡ e = cc in
      subst (OfTitle IsLineText) same (text_at p (MenuLine t) at)
  shown_by p (Some EndMenuLine) e at h = end_shown (enclosing_block ss p) e h
  shown_by p (Some (CommentLine t)) e at h =
      let same : CommentShown t (dependency ss p) ≡ e = cc in
      subst (OfTitle IsLineText) same (text_at p (CommentLine t) at)
  shown_by p _ e at h = absurd cc

  entry_title : (i : ℕ) (e : Shown) → slice_get (filter_map (λ p. shown_at ss p (slice_get ss p)) (indices ss)) i ≡ Some e → OfTitle IsLineText e
  entry_title i e h =
      let p = filter_map-from (λ p. shown_at ss p (slice_get ss p)) e (indices ss) i h in
      shown_by p.0 (slice_get ss p.0) e refl p.1

  -- the main menu
  title_line : (s : Numbered) (t : List ℕ) → IsLineNumbered s → title_of s ≡ Some t → IsLineText t
  title_line (MainMenuLine u) t h e = let same : u ≡ t = cc in subst IsLineText same h
  title_line _ t h e = absurd cc

  title_lines : (xs : List Numbered) → All IsLineNumbered xs → All IsLineText (filter_map title_of xs)
  title_lines [] h = All-nil IsLineText
  title_lines (x ∷ xs) h =
      All-cons_option IsLineText (title_of x) (filter_map title_of xs) (λ t e. title_line x t (All-head IsLineNumbered x xs h) e) (title_lines xs (All-tail IsLineNumbered x xs h))

  last_line : (ts : List (List ℕ)) → All IsLineText ts → IfSome (last_of ts) IsLineText
  last_line [] h = tt
  last_line (t ∷ []) h = All-head IsLineText t [] h
  last_line (t ∷ u ∷ ts) h = last_line (u ∷ ts) (All-tail IsLineText t (u ∷ ts) h)

  menu_title : IsLineText (unwrap_or (last_of (filter_map title_of ss)) (codes "Main menu"))
  menu_title = unless_named (last_of (filter_map title_of ss)) (codes "Main menu") (last_line (filter_map title_of ss) (title_lines ss texts)) main_menu_words

  -- defaults
  given_line : (s : Numbered) (g : StatedDefault) → IsLineNumbered s → stated_default s ≡ Some g → IsLineForm g.value
  given_line (DefaultLine v w) g h e =
      let same : record { value = v; when = w } ≡ g = cc in
      subst (λ (x : StatedDefault). IsLineForm x.value) same h
  given_line (DefLine k v w) g h e =
      let same : record { value = v; when = w } ≡ g = cc in
      subst (λ (x : StatedDefault). IsLineForm x.value) same h
  given_line _ g h e = absurd cc

  given_lines : (xs : List Numbered) → All IsLineNumbered xs → All (λ (g : StatedDefault). IsLineForm g.value) (filter_map stated_default xs)
  given_lines [] h = All-nil (λ (g : StatedDefault). IsLineForm g.value)
  given_lines (x ∷ xs) h =
      All-cons_option (λ (g : StatedDefault). IsLineForm g.value) (stated_default x) (filter_map stated_default xs)
      (λ g e. given_line x g (All-head IsLineNumbered x xs h) e) (given_lines xs (All-tail IsLineNumbered x xs h))

  abbrev IsLineDefault : Guarded Form → Type 0
  IsLineDefault g = IsLineForm g.what

  attribute_texts : (i : ℕ) → All IsLineNumbered (attributes ss i)
  attribute_texts i =
      All-take IsLineNumbered (prefix_len is_attribute (drop (suc i) ss)) (drop (suc i) ss) (All-drop IsLineNumbered (suc i) ss texts)

  default_lines : (s : SymId) → All IsLineDefault (symbol_facts ss s).defaults
  default_lines s =
      All-flat_map IsLineDefault (defaults_at ss) (λ i. All-map IsLineDefault (guarded_default ss i) (filter_map stated_default (attributes ss i))
      (given_lines (attributes ss i) (attribute_texts i))) (definitions_of ss s)

module _ (ls : List (Located Named)) (lines : All IsInLines (statements ls)) where
  abbrev line_statements : List Numbered
  line_statements = map (λ l. l.statement) (numbered_lines ls)

  abbrev whole : TreeFacts
  whole = facts_with (mentioned_names (statements ls)) (numbered_lines ls)

  all_numbered : (number : List ℕ → ℕ) (rest : List (Located Named)) → All IsInLines (statements rest) →
      All IsLineNumbered (map (λ l. numbered number l.statement) rest)
  all_numbered number [] h = All-nil IsLineNumbered
  all_numbered number (l ∷ rest) h =
      All-cons IsLineNumbered (numbered number l.statement) (map (λ l. numbered number l.statement) rest)
      (numbered_texts number l.statement (All-head IsInLines l.statement (statements rest) h).texts)
      (all_numbered number rest (All-tail IsInLines l.statement (statements rest) h))

  numbered_is : (number : List ℕ → ℕ) (rest : List (Located Named)) →
      map (λ l. numbered number l.statement) rest ≡ map (λ l. l.statement) (map (located_numbered number) rest)
  numbered_is number [] = refl
  numbered_is number (l ∷ rest) = ap (λ xs. numbered number l.statement ∷ xs) (numbered_is number rest)

  all_texts : All IsLineNumbered line_statements
  all_texts =
      let number = number_of (mentioned_names (statements ls)) in
      subst (All IsLineNumbered) (numbered_is number ls) (all_numbered number ls lines)

  -- each text of the tree stands in one line
  pub line_texts : HasLineTexts whole
  line_texts = record {
    titles = record { main_menu = menu_title line_statements all_texts; entries = entry_title line_statements all_texts };
    names = λ i name h. All-at IsLineText (mentioned_names (statements ls)) i name (name_lines (statements ls) lines) h;
    defaults = λ i f h g c.
        let each = All-map_each (λ (f : SymbolFacts). All (λ (g : Guarded Form). IsLineForm g.what) f.defaults) (λ i. symbol_facts line_statements (symbol i))
        (λ i. default_lines line_statements all_texts (symbol i)) (numbers (length (mentioned_names (statements ls)))) in
        All-contains (λ (g : Guarded Form). IsLineForm g.what) f.defaults g (All-at (λ (f : SymbolFacts). All (λ (g : Guarded Form). IsLineForm g.what) f.defaults) whole.symbols i f each h) c;
  }
