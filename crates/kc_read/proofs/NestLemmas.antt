-- What the nesting of blocks says of places: what encloses a choice, and what a closer closes.
use Rattle.std.proofs.{Common.{Bool, List, None, Ok, Option, Some, [], ap, drop, false, filter, is_some, length, map, refl, subst, suc, sym, take, true, zero, ℕ, ◌&&◌, ◌||◌, ◌∙◌, ◌∷◌, ◌≡◌}, lemmas.{List.length-map, Option.slice_get-map}}
use Rattle.std.specs.{List.{filter_map, list_any, slice_get}, Prelude.option_map}
use Rattle.kc_language.specs.{Expansion.{Bracket, Closes, Expands, Files, NoBracket, Opens, ReadSoFar, bracket, bracket_at, enclosing, is_choice_block, last_of, numbers, open_block_indices, open_blocks, opened, stays_open}, Statements.{ChoiceLine, ConfigLine, EndMenuLine, IfLine, Located, MenuLine, Named, Numbered, numbered, statements}, Symbols.{choice_number, enclosing_choice, is_block, of_block}, declared.statements.Block.Block}
use Rattle.kc_language.specs.declared.statements.Block.TheVariants as block
use Rattle.kc_entries.specs.{PartsOfExpansion.{bracket_of, is_open, located_numbered, stays_after}, PartsOfSymbols.{block_at, enclosing_block}}
use Rattle.kc_read.proofs.{ExpansionLemmas.{AreNested, Suits, expansion_is_nested}, TurnLemmas.{Leaves, turn}}

-- Statements that are brackets alike have the same blocks.
module _ {A B : Type 0} (f : A → B) where
  drop-map : (k : ℕ) (xs : List A) → drop k (map f xs) ≡ map f (drop k xs)
  drop-map zero xs = refl
  drop-map (suc k) [] = refl
  drop-map (suc k) (x ∷ xs) = drop-map k xs

  take-map : (k : ℕ) (xs : List A) → take k (map f xs) ≡ map f (take k xs)
  take-map zero xs = refl
  take-map (suc k) [] = refl
  take-map (suc k) (x ∷ xs) = ap (λ l. f x ∷ l) (take-map k xs)

same_filter : (p q : ℕ → Bool) (xs : List ℕ) → ((x : ℕ) → p x ≡ q x) → filter p xs ≡ filter q xs
same_filter p q [] h = refl
same_filter p q (x ∷ xs) h = rw (h x, same_filter p q xs h) refl

same_filter_map : {Y : Type 0} (f g : ℕ → Option Y) (xs : List ℕ) → ((x : ℕ) → f x ≡ g x) → filter_map f xs ≡ filter_map g xs
same_filter_map f g [] h = refl
same_filter_map f g (x ∷ xs) h = rw (h x, same_filter_map f g xs h) refl

module _ (f : Named → Numbered) (alike : (x : Named) → bracket (f x) ≡ bracket x) (same_turn : (x : Named) → turn (f x) ≡ turn x) where
  bracket_at-map : (ss : List Named) (j : ℕ) → bracket_at (map f ss) j ≡ bracket_at ss j
  bracket_at-map [] j = refl
  bracket_at-map (s ∷ ss) zero = alike s
  bracket_at-map (s ∷ ss) (suc j) = bracket_at-map ss j

  stays_after-map : (b : Bracket) (d : ℕ) (ss : List Named) → ((e : ℕ) → stays_open e (map f ss) ≡ stays_open e ss) →
      stays_after b d (map f ss) ≡ stays_after b d ss
  stays_after-map (Opens b) d ss same = same (suc d)
  stays_after-map Closes zero ss same = refl
  stays_after-map Closes (suc d) ss same = same d
  stays_after-map NoBracket d ss same = same d

  stays_open-map : (d : ℕ) (ss : List Named) → stays_open d (map f ss) ≡ stays_open d ss
  stays_open-map d [] = refl
  stays_open-map d (s ∷ ss) =
      ap (λ b. stays_after b d (map f ss)) (alike s) ∙ stays_after-map (bracket s) d ss (λ e. stays_open-map e ss)

  is_open-map : (ss : List Named) (j : ℕ) → is_open (map f ss) j ≡ is_open ss j
  is_open-map ss j = rw (bracket_at-map ss j, drop-map f (suc j) ss, stays_open-map 0 (drop (suc j) ss)) refl

  open_blocks-map : (ss : List Named) → open_blocks (map f ss) ≡ open_blocks ss
  open_blocks-map ss =
      let indices : open_block_indices (map f ss) ≡ open_block_indices ss = ap (λ n. filter (is_open (map f ss)) (numbers n)) (length-map ss f)
      ∙ same_filter (is_open (map f ss)) (is_open ss) (numbers (length ss)) (is_open-map ss) in
      ap (filter_map (λ j. opened (bracket_at (map f ss) j))) indices
      ∙ same_filter_map (λ j. opened (bracket_at (map f ss) j)) (λ j. opened (bracket_at ss j)) (open_block_indices ss) (λ j. ap opened (bracket_at-map ss j))

  with_statement : (o : Option Named) (s : Numbered) → option_map f o ≡ Some s → (x : Named) × (o ≡ Some x) × (f x ≡ s)
  with_statement None s e = absurd cc
  with_statement (Some x) s e = (x, refl, cc)

  AreNested-map : (ss : List Named) → AreNested ss → AreNested (map f ss)
  AreNested-map ss n = λ i s e.
      let x = with_statement (slice_get ss i) s (sym (slice_get-map f ss i) ∙ e) in
      let blocks : open_blocks (take i (map f ss)) ≡ open_blocks (take i ss) = ap open_blocks (take-map f i ss) ∙ open_blocks-map (take i ss) in
      let here : turn (x.0) ≡ turn s = sym (same_turn x.0) ∙ ap turn x.2 in
      subst (λ bs. Suits bs (turn s)) (sym blocks) (subst (Suits (open_blocks (take i ss))) here (n i x.0 x.1))

-- The same of numbered statements.
numbered_bracket : (number : List ℕ → ℕ) (x : Named) → bracket (numbered number x) ≡ bracket x
numbered_bracket number (ConfigLine n) = refl
numbered_bracket number _ = refl

numbered_turn : (number : List ℕ → ℕ) (x : Named) → turn (numbered number x) ≡ turn x
numbered_turn number (ConfigLine n) = refl
numbered_turn number _ = refl

statements_are_numbered : (number : List ℕ → ℕ) (ls : List (Located Named)) →
    map (λ l. l.statement) (map (located_numbered number) ls) ≡ map (numbered number) (statements ls)
statements_are_numbered number [] = refl
statements_are_numbered number (l ∷ ls) = ap (λ xs. numbered number l.statement ∷ xs) (statements_are_numbered number ls)

pub numbered_nested : (number : List ℕ → ℕ) (ls : List (Located Named)) → AreNested (statements ls) →
    AreNested (map (λ l. l.statement) (map (located_numbered number) ls))
numbered_nested number ls n =
    subst AreNested (sym (statements_are_numbered number ls)) (AreNested-map (numbered number) (numbered_bracket number) (numbered_turn number) (statements ls) n)

-- an expanded list, numbered: each line suits its enclosing blocks, and none is open at the end
pub expanded_nested : (files : Files) (root : List ℕ) (log : ReadSoFar) (number : List ℕ → ℕ) → Expands files root (Ok log) →
    AreNested (map (λ l. l.statement) (map (located_numbered number) log.lines))
expanded_nested files root log number x = numbered_nested number log.lines (expansion_is_nested files root log x).nested

-- Lists of places that a function gives blocks of.
module _ (f : ℕ → Option Block) where
  abbrev Opening : ℕ → Type 0
  Opening j = (b : Block) × (f j ≡ Some b)

  -- where no block is a choice, no place is one of a choice
  none_by : (p q : ℕ → Bool) (t : Bool) (j : ℕ) (js : List ℕ) → p j ≡ t → (p j ≡ true → (b : Block) × (f j ≡ Some b) × (q j ≡ is_choice_block b)) →
      (list_any is_choice_block (filter_map f (filter p js)) ≡ false → filter q (filter p js) ≡ []) → list_any is_choice_block (filter_map f (filter p (j ∷ js))) ≡ false →
      filter q (filter p (j ∷ js)) ≡ []
  none_by p q false j js e h later none = rw e (later (rw e at none))
  none_by p q true j js e h later none =
      let b = h e in
      let there : (is_choice_block b.0 || list_any is_choice_block (filter_map f (filter p js))) ≡ false = (rw (e, b.1) at none) in
      first (is_choice_block b.0) refl there
    where
      first : (c : Bool) → is_choice_block (h e).0 ≡ c → (c || list_any is_choice_block (filter_map f (filter p js))) ≡ false → filter q (filter p (j ∷ js)) ≡ []
      first true g none = absurd cc
      first false g none = let no : q j ≡ false = (h e).2 ∙ g in rw (e, no) (later none)

  none_chosen : (p q : ℕ → Bool) → ((j : ℕ) → p j ≡ true → (b : Block) × (f j ≡ Some b) × (q j ≡ is_choice_block b)) → (js : List ℕ) →
      list_any is_choice_block (filter_map f (filter p js)) ≡ false → filter q (filter p js) ≡ []
  none_chosen p q h [] none = refl
  none_chosen p q h (j ∷ js) none = none_by p q (p j) j js refl (h j) (none_chosen p q h js) none

  -- the last block is that of the last place
  abbrev EachOpens : List ℕ → Type 0
  EachOpens [] = Unit {0}
  EachOpens (j ∷ js) = Opening j × EachOpens js

  each_by : (p : ℕ → Bool) (t : Bool) (j : ℕ) (js : List ℕ) → p j ≡ t → (p j ≡ true → Opening j) → EachOpens (filter p js) → EachOpens (filter p (j ∷ js))
  each_by p true j js e h later = rw e (h e, later)
  each_by p false j js e h later = rw e later

  each_opens : (p : ℕ → Bool) → ((j : ℕ) → p j ≡ true → Opening j) → (js : List ℕ) → EachOpens (filter p js)
  each_opens p h [] = tt
  each_opens p h (j ∷ js) = each_by p (p j) j js refl (h j) (each_opens p h js)

  last_opener : (js : List ℕ) (b : Block) → EachOpens js → last_of (filter_map f js) ≡ Some b → (k : ℕ) × (last_of js ≡ Some k) × (f k ≡ Some b)
  last_opener [] b each e = absurd cc
  last_opener (j ∷ []) b each e = (j, refl, each.0.1 ∙ (rw (each.0.1) at e))
  last_opener (j ∷ k ∷ ks) b each e =
      let rest : last_of (filter_map f (k ∷ ks)) ≡ Some b = (rw (each.1.0.1) ((rw (each.0.1, each.1.0.1) at e))) in
      last_opener (k ∷ ks) b (each.1) rest

-- Places of a list of statements.
module _ (ss : List Numbered) where
  -- a block that is opened in a front is opened there in the whole
  in_front : (xs : List Numbered) (i j : ℕ) (b : Block) → opened (bracket_at (take i xs) j) ≡ Some b → block_at xs j ≡ Some b
  in_front [] zero j b e = absurd cc
  in_front [] (suc i) j b e = absurd cc
  in_front (x ∷ xs) zero j b e = absurd cc
  in_front (x ∷ xs) (suc i) zero b e = e
  in_front (x ∷ xs) (suc i) (suc j) b e = in_front xs i j b e

  both_true : (a b : Bool) → (a && b) ≡ true → a ≡ true
  both_true true b e = refl
  both_true false b e = absurd cc

  is_there : (o : Option Block) → is_some o ≡ true → (b : Block) × (o ≡ Some b)
  is_there None e = absurd cc
  is_there (Some b) e = (b, refl)

  open_block : (xs : List Numbered) (j : ℕ) → is_open xs j ≡ true → (b : Block) × (opened (bracket_at xs j) ≡ Some b)
  open_block xs j e = is_there (opened (bracket_at xs j)) (both_true (is_some (opened (bracket_at xs j))) (stays_open 0 (drop (suc j) xs)) e)

  choice_block : (b : Block) → is_block block.Choice (Some b) ≡ is_choice_block b
  choice_block block.If = refl
  choice_block block.Menu = refl
  choice_block block.Choice = refl

  open_choice : (i j : ℕ) → is_open (take i ss) j ≡ true → (b : Block) × (opened (bracket_at (take i ss) j) ≡ Some b) × (of_block ss block.Choice j ≡ is_choice_block b)
  open_choice i j e =
      let b = open_block (take i ss) j e in
      (b.0, b.1, ap (is_block block.Choice) (in_front ss i j b.0 b.1) ∙ choice_block b.0)

  -- a choice does not stand in a choice
  pub choice_alone : AreNested ss → (i : ℕ) → slice_get ss i ≡ Some ChoiceLine → enclosing_choice ss i ≡ None
  choice_alone n i e =
      let none : filter (of_block ss block.Choice) (enclosing ss i) ≡ [] =
      none_chosen (λ j. opened (bracket_at (take i ss) j)) (is_open (take i ss)) (of_block ss block.Choice) (open_choice i)
      (numbers (length (take i ss))) (n i ChoiceLine e) in
      ap (λ js. option_map (choice_number ss) (last_of js)) none

  -- a closer closes an opener of its own kind
  pub closer_closes : AreNested ss → (i : ℕ) (s : Numbered) (b : Block) → slice_get ss i ≡ Some s → turn s ≡ Leaves b → (k : ℕ) × (enclosing_block ss i ≡ Some k) × (block_at ss k ≡ Some b)
  closer_closes n i s b e t =
      let last : last_of (open_blocks (take i ss)) ≡ Some b = subst (Suits (open_blocks (take i ss))) t (n i s e) in
      let each = each_opens (λ j. opened (bracket_at (take i ss) j)) (is_open (take i ss)) (open_block (take i ss)) (numbers (length (take i ss))) in
      let k = last_opener (λ j. opened (bracket_at (take i ss) j)) (enclosing ss i) b each last in
      (k.0, k.1, in_front ss i k.0 b k.2)

  menu_by : (o : Option Numbered) → opened (bracket_of o) ≡ Some block.Menu → (t : List ℕ) × (o ≡ Some (MenuLine t))
  menu_by None e = absurd cc
  menu_by (Some (MenuLine t)) e = (t, refl)
  menu_by (Some (IfLine d)) e = absurd cc
  menu_by (Some ChoiceLine) e = absurd cc
  menu_by (Some _) e = absurd cc

  -- an `endmenu` line closes a menu
  pub menu_closed : AreNested ss → (i : ℕ) → slice_get ss i ≡ Some EndMenuLine → (k : ℕ) × (enclosing_block ss i ≡ Some k) × ((t : List ℕ) × (slice_get ss k ≡ Some (MenuLine t)))
  menu_closed n i e =
      let k = closer_closes n i EndMenuLine block.Menu e refl in
      (k.0, k.1, menu_by (slice_get ss k.0) k.2)

  choice_by : (o : Option Numbered) → is_block block.Choice (opened (bracket_of o)) ≡ true → o ≡ Some ChoiceLine
  choice_by None e = absurd cc
  choice_by (Some ChoiceLine) e = refl
  choice_by (Some (IfLine d)) e = absurd cc
  choice_by (Some (MenuLine t)) e = absurd cc
  choice_by (Some _) e = absurd cc

  pub opener_alone : AreNested ss → (i : ℕ) → of_block ss block.Choice i ≡ true → enclosing_choice ss i ≡ None
  opener_alone n i e = choice_alone n i (choice_by (slice_get ss i) e)
