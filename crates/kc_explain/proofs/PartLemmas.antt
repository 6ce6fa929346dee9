-- Parts of conditions and lines that say something, entry by entry.
use Rattle.std.proofs.Common.{◌≡◌, ℕ, ◌+◌, ◌<◌, ◌≤◌, Bool, true, false, cond, ◌||◌, List, [], ◌∷◌, ◌++◌, length, drop, filter, map, Option, Some, None, refl, ap, sym, ◌∙◌, get_or, append_assoc, append-nil}
use Rattle.std.specs.Prelude.{if◌then◌else◌, option_map}
use Rattle.std.specs.Option.{option_and_then, option_or}
use Rattle.std.specs.List.{cons_option, filter_map, flat_map, last_or, list_any, slice_get}
use Rattle.std.proofs.lemmas.Grind.{flat_map-append}
use Rattle.std.proofs.lemmas.List.{map-append}
use Rattle.std.proofs.lemmas.List.Elements.{filter_map-append}
use Rattle.std.proofs.lemmas.Option.{slice_get-map}
use Rattle.kc_expr.proofs.FormLemmas.{lesser-assoc}
use Rattle.kc_language.specs.Expansion.{NoBracket, bracket, enclosing, last_of, opened}
use Rattle.kc_language.specs.Expressions.{Form, least, lesser}
use Rattle.kc_language.specs.declared.expressions.Tri.{Tri}
use Rattle.kc_outcome.specs.Explanations as rules
use Rattle.kc_language.specs.Symbols as line_rules
use Rattle.kc_language.specs.Statements.{InputPrompt, Located, Numbered, IfLine, MenuLine, statements}
use Rattle.kc_language.specs.Symbols.{choice_number, is_block, listed, of_block, prompt_of}
use Rattle.kc_language.specs.ConfigFile.{UserInput}
use Rattle.kc_language.specs.Texts.{Solution, known}
use Rattle.kc_language.specs.declared.statements.Block.{Block}
use Rattle.kc_entries.specs.Entries.{attribute_line, first_line, own_lines}
use Rattle.kc_entries.specs.StatementViews.{head_view}
use Rattle.kc_entries.specs.declared.entries.AttributeLine.{AttributeLine}
use Rattle.kc_entries.specs.declared.entries.Entry.{Entry}
use Rattle.kc_entries.specs.declared.statement.Head.{Head}
use Rattle.kc_entries.specs.declared.statement.Head.TheVariants as head
use Rattle.kc_entries.proofs.ListLemmas.{filter_map-map, last_of-map, map-filter_map, last_or-cons_option, option_map-or}
use Rattle.kc_entries.proofs.PlaceLemmas.{drop_at, drop_past}
use Rattle.kc_tree.specs.EntryViews.{begins_choice, index_of}
use Rattle.kc_tree.specs.Layouts.{choice_at, entry_at, index_at, own_at, statements_in}
use Rattle.kc_tree.specs.declared.layout.Layout.{Layout}
use Rattle.kc_tree.specs.declared.rows.EntryId.{EntryId}
use Rattle.kc_tree.proofs.ChoiceAtLemmas.{choice-at-entry, choice-at-none}
use Rattle.kc_tree.proofs.EntryListLemmas.{choice-begins}
use Rattle.kc_tree.proofs.ListLemmas.{flat-each, flat-filter_map, flat-flat, flat-map}
use Rattle.std.proofs.lemmas.Option.{slice_get_within}
use Rattle.kc_values.proofs.TriLemmas.{least-append, lesser_y}
use Rattle.kc_explain.specs.LineViews.{AreAt, at_entry, line_at, lines_of, own_of}
use Rattle.kc_explain.specs.PartViews.{Part, Said, asked_of, asked_value, part_in, parts_value, said_in, said_of, said_one, value_under, when_value, worth_parts}
use Rattle.kc_explain.specs.PartsOfExplanations.{block_parts, dependency_parts, located, menus_parts, mode_part, visible_parts}
use Rattle.kc_explain.proofs.LineLemmas.{IsEntry, at-none, at-there, entry-there, over-entries, said-at}

-- ---- Lists
pub listed-map : {A B : Type 0} (f : A → B) (o : Option A) → listed (option_map f o) ≡ map f (listed o)
listed-map f None = refl
listed-map f (Some x) = refl

pub map-twice : {A B C : Type 0} (h : B → C) (v : A → B) (xs : List A) → map (λ x. h (v x)) xs ≡ map h (map v xs)
map-twice h v [] = refl
map-twice h v (x ∷ xs) = ap (λ r. h (v x) ∷ r) (map-twice h v xs)

pub map-flat : {A B C : Type 0} (f : B → C) (g : A → List B) (xs : List A) → map f (flat_map g xs) ≡ flat_map (λ x. map f (g x)) xs
map-flat f g [] = refl
map-flat f g (x ∷ xs) = map-append f (g x) (flat_map g xs) ∙ ap (λ r. map f (g x) ++ r) (map-flat f g xs)

kept-map : {A B : Type 0} (p : A → Bool) (f : A → B) (xs : List A) → filter_map (λ x. if p x then Some (f x) else None) xs ≡ map f (filter p xs)
kept-map p f [] = refl
kept-map {A} {B} p f (x ∷ xs) = by (p x) (kept-map p f xs)
  where
    by : (b : Bool) → filter_map (λ y. if p y then Some (f y) else None) xs ≡ map f (filter p xs) →
        cons_option (if b then Some (f x) else None) (filter_map (λ y. if p y then Some (f y) else None) xs) ≡ map f (cond b (x ∷ filter p xs) (filter p xs))
    by true e = ap (λ r. f x ∷ r) e
    by false e = e

flat_map-kept : {X A : Type 0} (p : X → Bool) (g : X → List A) (xs : List X) → flat_map (λ x. if p x then g x else []) xs ≡ flat_map g (filter p xs)
flat_map-kept p g [] = refl
flat_map-kept {X} {A} p g (x ∷ xs) = ap (λ r. (if p x then g x else []) ++ r) (flat_map-kept p g xs) ∙ by (p x)
  where
    by : (b : Bool) → (if b then g x else []) ++ flat_map g (filter p xs) ≡ flat_map g (if b then x ∷ filter p xs else filter p xs)
    by true = refl
    by false = refl

-- one by one
pub flat_map-each : {A B C : Type 0} (g : B → List C) (f : A → Option B) (xs : List A) →
    flat_map (λ x. flat_map g (filter_map f (x ∷ []))) xs ≡ flat_map g (filter_map f xs)
flat_map-each g f [] = refl
flat_map-each g f (x ∷ xs) =
    ap (λ r. flat_map g (filter_map f (x ∷ [])) ++ r) (flat_map-each g f xs)
    ∙ sym (flat_map-append g (filter_map f (x ∷ [])) (filter_map f xs)) ∙ ap (flat_map g) (sym (filter_map-append f (x ∷ []) xs))

-- ---- The last one
module _ {X A : Type 0} (f : X → Option A) where
  abbrev pub LastIs : List X → ℕ → Option A → Type 0
  LastIs xs i o = last_or o (filter_map f (drop i xs)) ≡ last_of (filter_map f xs)

  pub last_next : {B : Type 0} (v : B → A) (xs : List X) (i : ℕ) (x : X) (found now next : Option B) → LastIs xs i (option_map v now) → i < length xs →
      x ≡ get_or xs i x → option_map v found ≡ f x → next ≡ option_or found now → LastIs xs (i + 1) (option_map v next)
  last_next v xs i x found now next h b at e n =
      let step : option_map v next ≡ option_or (f x) (option_map v now) = ap (option_map v) n ∙ option_map-or v found now ∙ ap (λ o. option_or o (option_map v now)) e in
      let d : drop i xs ≡ x ∷ drop (i + 1) xs = drop_at xs i x b at in
      rw step (sym (last_or-cons_option (f x) (option_map v now) (filter_map f (drop (i + 1) xs))) ∙ (rw d at h))

  pub last_end : (xs : List X) (i : ℕ) (now : Option A) → LastIs xs i now → length xs ≤ i → now ≡ last_of (filter_map f xs)
  last_end xs i now h b = let d : drop i xs ≡ [] = drop_past xs i b in (rw d at h)

-- ---- The least of values
module _ {X : Type 0} (f : X → Tri) where
  abbrev pub LeastIs : List X → ℕ → Tri → Type 0
  LeastIs xs i t = lesser t (least (map f (drop i xs))) ≡ least (map f xs)

  pub least_next : (xs : List X) (i : ℕ) (x : X) (now next one : Tri) → LeastIs xs i now → i < length xs → x ≡ get_or xs i x → one ≡ f x → next ≡ lesser now one → LeastIs xs (i + 1) next
  least_next xs i x now next one h l at e n =
      let d : drop i xs ≡ x ∷ drop (i + 1) xs = drop_at xs i x l at in
      ap (λ t. lesser t (least (map f (drop (i + 1) xs)))) (n ∙ ap (lesser now) e)
      ∙ lesser-assoc now (f x) (least (map f (drop (i + 1) xs))) ∙ (rw d at h)

  pub least_end : (xs : List X) (i : ℕ) (now : Tri) → LeastIs xs i now → length xs ≤ i → now ≡ least (map f xs)
  least_end xs i now h b = let d : drop i xs ≡ [] = drop_past xs i b in sym (lesser_y now) ∙ (rw d at h)

-- the value of a condition by its parts with their lines
pub value-in : (lines : List (Located Numbered)) (solution : Solution) (ps : List rules.ConditionPart) →
    parts_value solution (map (part_in lines) ps) ≡ rules.parts_value solution.tree (known solution) ps
value-in lines solution ps = ap least (sym (map-twice (λ (p : Part). asked_value solution p.asks) (part_in lines) ps))

-- ---- Those up to the first that passes a test
module _ {Z : Type 0} (p : Z → Bool) where
  through-any : (xs ys : List Z) → list_any p xs ≡ true → rules.through p (xs ++ ys) ≡ rules.through p xs
  through-any [] ys h = absurd cc
  through-any (x ∷ xs) ys h = by (p x) h (through-any xs ys)
    where
      by : (b : Bool) → (b || list_any p xs) ≡ true → (list_any p xs ≡ true → rules.through p (xs ++ ys) ≡ rules.through p xs) →
          cond b (x ∷ []) (x ∷ rules.through p (xs ++ ys)) ≡ cond b (x ∷ []) (x ∷ rules.through p xs)
      by true h e = refl
      by false h e = ap (λ r. x ∷ r) (e h)

  through-none : (xs ys : List Z) → list_any p xs ≡ false → rules.through p (xs ++ ys) ≡ rules.through p xs ++ rules.through p ys
  through-none [] ys h = refl
  through-none (x ∷ xs) ys h = by (p x) h (through-none xs ys)
    where
      by : (b : Bool) → (b || list_any p xs) ≡ false → (list_any p xs ≡ false → rules.through p (xs ++ ys) ≡ rules.through p xs ++ rules.through p ys) →
          cond b (x ∷ []) (x ∷ rules.through p (xs ++ ys)) ≡ cond b (x ∷ []) (x ∷ rules.through p xs) ++ rules.through p ys
      by true h e = absurd cc
      by false h e = ap (λ r. x ∷ r) (e h)

  any-append : (xs ys : List Z) → list_any p xs ≡ false → list_any p (xs ++ ys) ≡ list_any p ys
  any-append [] ys h = refl
  any-append (x ∷ xs) ys h = by (p x) h (any-append xs ys)
    where
      by : (b : Bool) → (b || list_any p xs) ≡ false → (list_any p xs ≡ false → list_any p (xs ++ ys) ≡ list_any p ys) → (b || list_any p (xs ++ ys)) ≡ list_any p ys
      by true h e = absurd cc
      by false h e = e h

  any-front : (xs ys : List Z) → list_any p xs ≡ true → list_any p (xs ++ ys) ≡ true
  any-front [] ys h = absurd cc
  any-front (x ∷ xs) ys h = by (p x) h (any-front xs ys)
    where
      by : (b : Bool) → (b || list_any p xs) ≡ true → (list_any p xs ≡ true → list_any p (xs ++ ys) ≡ true) → (b || list_any p (xs ++ ys)) ≡ true
      by true h e = refl
      by false h e = e h

  pub through-one : (o : Option Z) → listed o ≡ rules.through p (listed o)
  through-one None = refl
  through-one (Some x) = by (p x)
    where
      by : (b : Bool) → x ∷ [] ≡ cond b (x ∷ []) (x ∷ [])
      by true = refl
      by false = refl

  -- a walk that adds what each element gives, up to the first that passes
  module _ {X : Type 0} (g : X → List Z) (base : List Z) where
    pub record Through (xs : List X) (i : ℕ) (out : List Z) : Type 0 where
      pub adds : out ++ rules.through p (flat_map g (drop i xs)) ≡ base ++ rules.through p (flat_map g xs)
      pub met : list_any p (flat_map g (drop i xs)) ≡ list_any p (flat_map g xs)

    pub through-begins : (xs : List X) (out : List Z) → out ≡ base → Through xs 0 out
    through-begins xs out e = record { adds = ap (λ o. o ++ rules.through p (flat_map g xs)) e; met = refl }

    pub through-next : (xs : List X) (i : ℕ) (x : X) (out new : List Z) → Through xs i out → i < length xs → x ≡ get_or xs i x → new ≡ out ++ rules.through p (g x) → list_any p (g x) ≡ false →
        Through xs (i + 1) new
    through-next xs i x out new t h e n m =
        let d : drop i xs ≡ x ∷ drop (i + 1) xs = drop_at xs i x h e in
        record {
          adds = ap (λ o. o ++ rules.through p (flat_map g (drop (i + 1) xs))) n
              ∙ append_assoc out (rules.through p (g x)) (rules.through p (flat_map g (drop (i + 1) xs)))
              ∙ ap (λ r. out ++ r) (sym (through-none (g x) (flat_map g (drop (i + 1) xs)) m) ∙ ap (λ r. rules.through p (flat_map g r)) (sym d))
              ∙ t.adds;
          met = sym (any-append (g x) (flat_map g (drop (i + 1) xs)) m) ∙ ap (λ r. list_any p (flat_map g r)) (sym d) ∙ t.met;
        }

    pub through-stops : (xs : List X) (i : ℕ) (x : X) (out new : List Z) → Through xs i out → i < length xs → x ≡ get_or xs i x → new ≡ out ++ rules.through p (g x) → list_any p (g x) ≡ true →
        (new ≡ base ++ rules.through p (flat_map g xs)) × (true ≡ list_any p (flat_map g xs))
    through-stops xs i x out new t h e n m =
        let d : drop i xs ≡ x ∷ drop (i + 1) xs = drop_at xs i x h e in (
          n ∙ ap (λ r. out ++ r) (sym (through-any (g x) (flat_map g (drop (i + 1) xs)) m) ∙ ap (λ r. rules.through p (flat_map g r)) (sym d)) ∙ t.adds,
          sym (any-front (g x) (flat_map g (drop (i + 1) xs)) m) ∙ ap (λ r. list_any p (flat_map g r)) (sym d) ∙ t.met,
        )

    pub through-ends : (xs : List X) (i : ℕ) (out : List Z) → Through xs i out → length xs ≤ i → (out ≡ base ++ rules.through p (flat_map g xs)) × (false ≡ list_any p (flat_map g xs))
    through-ends xs i out t h =
        let d : drop i xs ≡ [] = drop_past xs i h in (
          sym (append-nil out) ∙ ap (λ r. out ++ rules.through p (flat_map g r)) (sym d) ∙ t.adds,
          ap (λ r. list_any p (flat_map g r)) (sym d) ∙ t.met,
        )

  -- the same list, seen another way
  pub through-map : {X : Type 0} (q : X → Bool) (v : X → Z) → ((x : X) → p (v x) ≡ q x) → (xs : List X) → rules.through p (map v xs) ≡ map v (rules.through q xs)
  through-map q v same [] = refl
  through-map {X} q v same (x ∷ xs) = ap (λ b. cond b (v x ∷ []) (v x ∷ rules.through p (map v xs))) (same x) ∙ by (q x) (through-map q v same xs)
    where
      by : (b : Bool) → rules.through p (map v xs) ≡ map v (rules.through q xs) → cond b (v x ∷ []) (v x ∷ rules.through p (map v xs)) ≡ map v (cond b (x ∷ []) (x ∷ rules.through q xs))
      by true e = refl
      by false e = ap (λ r. v x ∷ r) e

-- ---- The lines of one entry, by its attributes
pub own-flat : {Z : Type 0} (h : Located Numbered → List Z) (x : Entry) (own : List AttributeLine) →
    flat_map (λ (a : AttributeLine). h (attribute_line x.file.value.items a.line a.attribute)) own ≡ flat_map h (own_lines x own)
own-flat h x own = sym (flat-map h (λ (a : AttributeLine). attribute_line x.file.value.items a.line a.attribute) own)

pub own-filter : {Z : Type 0} (f : Located Numbered → Option Z) (x : Entry) (own : List AttributeLine) →
    flat_map (λ (a : AttributeLine). listed (f (attribute_line x.file.value.items a.line a.attribute))) own ≡ filter_map f (own_lines x own)
own-filter f x own = own-flat (λ o. listed (f o)) x own ∙ sym (flat-filter_map f (own_lines x own))

pub own-last : {Z : Type 0} (f : Located Numbered → Option Z) (x : Entry) (own : List AttributeLine) →
    filter_map (λ (a : AttributeLine). f (attribute_line x.file.value.items a.line a.attribute)) own ≡ filter_map f (own_lines x own)
own-last f x own = sym (filter_map-map f (λ (a : AttributeLine). attribute_line x.file.value.items a.line a.attribute) own)

pub own-known : (l : Layout) (at : ℕ) (x : Entry) (own : List AttributeLine) → Some x ≡ entry_at l at → own ≡ own_at l at → own_lines x own ≡ own_of l at
own-known l at x own h e =
    ap (own_lines x) e ∙ sym (append-nil (own_lines x (own_at l at))) ∙ ap (λ (o : Option Entry). flat_map (λ (y : Entry). own_lines y (own_at l at)) (listed o)) h

pub own-none : (l : Layout) (at : ℕ) → None ≡ entry_at l at → [] ≡ own_of l at
own-none l at h = ap (λ (o : Option Entry). flat_map (λ (y : Entry). own_lines y (own_at l at)) (listed o)) h

-- ---- What an entry says and asks
module _ (l : Layout) (at : ℕ) (x : Entry) (is : IsEntry l at x) where
  abbrev at_entry_of : (List (Located Numbered) → ℕ → List Part) → List Part
  at_entry_of f = flat_map (f (lines_of l)) (listed (index_at l at))

  pub head-there : slice_get (statements_in l) (index_of l.entries is.number) ≡ Some (head_view x.head)
  head-there = slice_get-map (λ (m : Located Numbered). m.statement) (lines_of l) (index_of l.entries is.number) ∙ ap (option_map (λ (m : Located Numbered). m.statement)) is.first

  -- what its lines ask
  pub asked-is : (read : Numbered → Option Form) → located (lines_of l) (rules.parts_at (statements_in l) read (index_of l.entries is.number)) ≡ asked_of read (own_of l at)
  asked-is read =
      let one : Located Numbered → Form → Part = λ o e. record { line = Some o; asks = rules.Worth e } in
      sym (map-twice (part_in (lines_of l)) (λ (q : rules.Said Form). rules.worth q.at q.what) (rules.said_at (statements_in l) read (index_of l.entries is.number)))
      ∙ said-at read l at x is (λ q. part_in (lines_of l) (rules.worth q.at q.what)) one (λ k o y h. λ j. record { line = h j; asks = rules.Worth y })
      ∙ flat-filter_map (λ (o : Located Numbered). option_map (one o) (read o.statement)) (own_of l at)
      ∙ flat-each (λ (o : Located Numbered). listed (option_map (one o) (read o.statement))) (λ (o : Located Numbered). worth_parts (Some o) (read o.statement))
      (λ o. listed-map (one o) (read o.statement)) (own_of l at)

  -- what it asks as a block of what stands in it
  abbrev block_by : Option Numbered → List rules.ConditionPart
  block_by o = elim o [
    | Some (IfLine e) ↦ rules.worth (index_of l.entries is.number) e ∷ []
    | Some (MenuLine t) ↦ rules.parts_at (statements_in l) line_rules.dependency_in (index_of l.entries is.number)
    | _ ↦ []
  ]

  block-as : (h : Numbered) → head_view x.head ≡ h → block_parts (lines_of l) (index_of l.entries is.number) ≡ located (lines_of l) (block_by (Some h))
  block-as h e = ap (λ o. located (lines_of l) (block_by o)) (head-there ∙ ap Some e)

  pub block-if : (f : Form) → head_view x.head ≡ IfLine f → worth_parts (Some (first_line x)) (Some f) ≡ at_entry_of block_parts
  block-if f e = (λ j. record { line = sym is.first j; asks = rules.Worth f } ∷ []) ∙ sym (block-as (IfLine f) e) ∙ sym (at-there l (block_parts (lines_of l)) at x is)

  pub block-menu : (t : List ℕ) → head_view x.head ≡ MenuLine t → asked_of line_rules.dependency_in (own_of l at) ≡ at_entry_of block_parts
  block-menu t e = sym (asked-is line_rules.dependency_in) ∙ sym (block-as (MenuLine t) e) ∙ sym (at-there l (block_parts (lines_of l)) at x is)

  other-block : (h : Head) → ((e : _) → h ≡ head.If e → ⊥) → ((t : _) → h ≡ head.Menu t → ⊥) → block_by (Some (head_view h)) ≡ []
  other-block (head.If e) a b = absurd (a e refl)
  other-block (head.Menu t) a b = absurd (b t refl)
  other-block _ a b = refl

  pub block-other : ((e : _) → x.head ≡ head.If e → ⊥) → ((t : _) → x.head ≡ head.Menu t → ⊥) → [] ≡ at_entry_of block_parts
  block-other a b = ap (located (lines_of l)) (sym (other-block x.head a b)) ∙ sym (block-as (head_view x.head) refl) ∙ sym (at-there l (block_parts (lines_of l)) at x is)

  -- what it asks as a menu of what is visible
  abbrev visible_by : Option Numbered → List Part
  visible_by o = if is_block Block.Menu (opened (elim o [ None ↦ NoBracket | Some s ↦ bracket s ]))
      then located (lines_of l) (rules.parts_at (statements_in l) line_rules.visible_in (index_of l.entries is.number)) else []

  visible-as : (h : Numbered) → head_view x.head ≡ h → visible_parts (lines_of l) (index_of l.entries is.number) ≡ visible_by (Some h)
  visible-as h e = ap visible_by (head-there ∙ ap Some e)

  pub menu-is : (t : List ℕ) → head_view x.head ≡ MenuLine t → asked_of line_rules.visible_in (own_of l at) ≡ at_entry_of visible_parts
  menu-is t e = sym (asked-is line_rules.visible_in) ∙ sym (visible-as (MenuLine t) e) ∙ sym (at-there l (visible_parts (lines_of l)) at x is)

  other-menu : (h : Head) → ((t : _) → h ≡ head.Menu t → ⊥) → visible_by (Some (head_view h)) ≡ []
  other-menu (head.Menu t) b = absurd (b t refl)
  other-menu _ b = refl

  pub menu-other : ((t : _) → x.head ≡ head.Menu t → ⊥) → [] ≡ at_entry_of visible_parts
  menu-other b = sym (other-menu x.head b) ∙ sym (visible-as (head_view x.head) refl) ∙ sym (at-there l (visible_parts (lines_of l)) at x is)

  -- the mode that it asks as a choice
  mode-by : (b : Bool) → begins_choice l.entries is.number ≡ b → (o : Option ℕ) → choice_at l at ≡ o →
      option_map (λ k. record { line = Some (first_line x); asks = rules.ModeOf k }) o ≡ mode_part (lines_of l) (index_of l.entries is.number)
  mode-by true t o q =
      let within = slice_get_within l.entries.first_lines.items is.number x is.found in
      ap (option_map (λ k. record { line = Some (first_line x); asks = rules.ModeOf k })) (sym q ∙ ap (choice_at l) is.stored ∙ choice-at-entry l is.number within t)
      ∙ (λ j. Some (record { line = sym is.first j; asks = rules.ModeOf (choice_number (statements_in l) (index_of l.entries is.number)) }))
      ∙ sym (ap (λ b. if b then Some (part_in (lines_of l) (record { at = index_of l.entries is.number; asks = rules.ModeOf (choice_number (statements_in l) (index_of l.entries is.number)) })) else None)
      (choice-begins l.entries is.number ∙ t))
  mode-by false t o q =
      ap (option_map (λ k. record { line = Some (first_line x); asks = rules.ModeOf k })) (sym q ∙ ap (choice_at l) is.stored ∙ choice-at-none l is.number t)
      ∙ sym (ap (λ b. if b then Some (part_in (lines_of l) (record { at = index_of l.entries is.number; asks = rules.ModeOf (choice_number (statements_in l) (index_of l.entries is.number)) })) else None)
      (choice-begins l.entries is.number ∙ t))

  pub mode-is : (o : Option ℕ) → o ≡ choice_at l at → option_map (λ k. record { line = Some (first_line x); asks = rules.ModeOf k }) o ≡ option_and_then (mode_part (lines_of l)) (index_at l at)
  mode-is o q = mode-by (begins_choice l.entries is.number) refl o (sym q) ∙ ap (option_and_then (mode_part (lines_of l))) (sym is.index)

-- ---- What an entry depends on, and what it is shown under
module _ (l : Layout) where
  pub mode-line : (at : ℕ) (line : Located Numbered) (o : Option ℕ) → Some line ≡ line_at l at → o ≡ choice_at l at →
      option_map (λ k. record { line = Some line; asks = rules.ModeOf k }) o ≡ option_and_then (mode_part (lines_of l)) (index_at l at)
  mode-line at line o h q = by (entry_at l at) refl
    where
      by : (e : Option Entry) → entry_at l at ≡ e → option_map (λ k. record { line = Some line; asks = rules.ModeOf k }) o ≡ option_and_then (mode_part (lines_of l)) (index_at l at)
      by None e = absurd (let no : Some line ≡ None = h ∙ ap (option_map first_line) e in cc)
      by (Some x) e = (λ j. option_map (λ k. record { line = (h ∙ ap (option_map first_line) e) j; asks = rules.ModeOf k }) o) ∙ mode-is l at x (entry-there l at x e) o q

  seen-through : {X : Type 0} (f : ℕ → Option X) (entries : List EntryId) (is : List ℕ) → AreAt l entries is → filter_map (λ (e : EntryId). option_and_then f (index_at l e.0)) entries ≡ filter_map f is
  seen-through f entries is e =
      sym (filter_map-map (option_and_then f) (λ (e : EntryId). index_at l e.0) entries) ∙ ap (filter_map (option_and_then f)) e ∙ filter_map-map (option_and_then f) Some is

  mode-last : (j : ℕ) → located (lines_of l) (rules.mode_parts (statements_in l) j) ≡ listed (last_of (filter_map (mode_part (lines_of l)) (enclosing (statements_in l) j)))
  mode-last j =
      let part : ℕ → rules.ConditionPart = λ k. record { at = k; asks = rules.ModeOf (choice_number (statements_in l) k) } in
      let choices = filter (of_block (statements_in l) Block.Choice) (enclosing (statements_in l) j) in
      sym (map-twice (part_in (lines_of l)) part (listed (last_of (filter (of_block (statements_in l) Block.Choice) (enclosing (statements_in l) j)))))
      ∙ sym (listed-map (λ k. part_in (lines_of l) (part k)) (last_of (filter (of_block (statements_in l) Block.Choice) (enclosing (statements_in l) j))))
      ∙ ap listed (sym (last_of-map (λ k. part_in (lines_of l) (part k)) (filter (of_block (statements_in l) Block.Choice) (enclosing (statements_in l) j))))
      ∙ ap (λ r. listed (last_of r)) (sym (kept-map (of_block (statements_in l) Block.Choice) (λ k. part_in (lines_of l) (part k)) (enclosing (statements_in l) j)))

  whole : (j : ℕ) → map (part_in (lines_of l)) (flat_map (rules.block_parts (statements_in l)) (enclosing (statements_in l) j)
      ++ (rules.parts_at (statements_in l) line_rules.dependency_in j ++ rules.mode_parts (statements_in l) j)) ≡ dependency_parts (lines_of l) j
  whole j =
      ap (map (part_in (lines_of l)))
      (sym (append_assoc (flat_map (rules.block_parts (statements_in l)) (enclosing (statements_in l) j)) (rules.parts_at (statements_in l) line_rules.dependency_in j) (rules.mode_parts (statements_in l) j)))

  -- of an entry that is there
  pub dependency-is : (at : ℕ) (x : Entry) (is : IsEntry l at x) (around : List EntryId) (none blocks own all : List Part) (mode : Option Part) →
      AreAt l around (flat_map (enclosing (statements_in l)) (listed (index_at l at))) → none ≡ [] → blocks ≡ none ++ flat_map (at_entry l (block_parts (lines_of l))) around →
      own ≡ blocks ++ asked_of line_rules.dependency_in (own_of l at) → mode ≡ last_of (filter_map (λ (e : EntryId). option_and_then (mode_part (lines_of l)) (index_at l e.0)) around) →
      all ≡ own ++ listed mode → all ≡ flat_map (dependency_parts (lines_of l)) (listed (index_at l at))
  dependency-is at x is around none blocks own all mode a n b o m e =
      let i = index_of l.entries is.number in
      let here : flat_map (enclosing (statements_in l)) (listed (index_at l at)) ≡ enclosing (statements_in l) (index_of l.entries is.number) = at-there l (enclosing (statements_in l)) at x is in
      let first : blocks ≡ located (lines_of l) (flat_map (rules.block_parts (statements_in l)) (enclosing (statements_in l) (index_of l.entries is.number))) =
      b ∙ ap (λ r. r ++ flat_map (at_entry l (block_parts (lines_of l))) around) n ∙ over-entries l (block_parts (lines_of l)) around _ a ∙ ap (flat_map (block_parts (lines_of l))) here
      ∙ sym (map-flat (part_in (lines_of l)) (rules.block_parts (statements_in l)) (enclosing (statements_in l) (index_of l.entries is.number))) in
      let last : listed mode ≡ located (lines_of l) (rules.mode_parts (statements_in l) (index_of l.entries is.number)) =
      ap listed (m ∙ ap last_of (seen-through (mode_part (lines_of l)) around _ a) ∙ ap (λ r. last_of (filter_map (mode_part (lines_of l)) r)) here) ∙ sym (mode-last (index_of l.entries is.number)) in
      let asked = sym (asked-is l at x is line_rules.dependency_in) in
      e ∙ ap (λ r. r ++ listed mode) o ∙ append_assoc blocks (asked_of line_rules.dependency_in (own_of l at)) (listed mode)
      ∙ (λ j. first j ++ (asked j ++ last j))
      ∙ ap (λ r. located (lines_of l) (flat_map (rules.block_parts (statements_in l)) (enclosing (statements_in l) (index_of l.entries is.number))) ++ r)
      (sym (map-append (part_in (lines_of l)) (rules.parts_at (statements_in l) line_rules.dependency_in (index_of l.entries is.number)) (rules.mode_parts (statements_in l) (index_of l.entries is.number))))
      ∙ sym (map-append (part_in (lines_of l)) (flat_map (rules.block_parts (statements_in l)) (enclosing (statements_in l) (index_of l.entries is.number)))
      (rules.parts_at (statements_in l) line_rules.dependency_in (index_of l.entries is.number) ++ rules.mode_parts (statements_in l) (index_of l.entries is.number)))
      ∙ whole (index_of l.entries is.number)
      ∙ sym (at-there l (dependency_parts (lines_of l)) at x is)

  pub dependency-none : (at : ℕ) (all : List Part) → None ≡ entry_at l at → all ≡ [] → all ≡ flat_map (dependency_parts (lines_of l)) (listed (index_at l at))
  dependency-none at all h e = e ∙ sym (at-none l (dependency_parts (lines_of l)) at (sym h))

  kept-located : (j : ℕ) (b : Bool) → (if b then located (lines_of l) (rules.parts_at (statements_in l) line_rules.visible_in j) else []) ≡ located (lines_of l) (if b then rules.parts_at (statements_in l) line_rules.visible_in j else [])
  kept-located j true = refl
  kept-located j false = refl

  menus-are : (j : ℕ) → flat_map (visible_parts (lines_of l)) (enclosing (statements_in l) j) ≡ menus_parts (lines_of l) j
  menus-are j =
      flat-each (visible_parts (lines_of l)) (λ k. located (lines_of l) (if of_block (statements_in l) Block.Menu k then rules.parts_at (statements_in l) line_rules.visible_in k else []))
      (λ k. kept-located k (of_block (statements_in l) Block.Menu k)) (enclosing (statements_in l) j)
      ∙ sym (map-flat (part_in (lines_of l)) (λ k. if of_block (statements_in l) Block.Menu k then rules.parts_at (statements_in l) line_rules.visible_in k else []) (enclosing (statements_in l) j))
      ∙ ap (located (lines_of l)) (flat_map-kept (of_block (statements_in l) Block.Menu) (rules.parts_at (statements_in l) line_rules.visible_in) (enclosing (statements_in l) j))

  pub shown-is : (at : ℕ) (around : List EntryId) (none menus all when : List Part) → AreAt l around (flat_map (enclosing (statements_in l)) (listed (index_at l at))) → none ≡ [] →
      menus ≡ none ++ flat_map (at_entry l (visible_parts (lines_of l))) around → all ≡ menus ++ when → all ≡ flat_map (menus_parts (lines_of l)) (listed (index_at l at)) ++ when
  shown-is at around none menus all when a n m e =
      e ∙ ap (λ r. r ++ when) (m ∙ ap (λ r. r ++ flat_map (at_entry l (visible_parts (lines_of l))) around) n ∙ over-entries l (visible_parts (lines_of l)) around _ a
      ∙ flat-flat (visible_parts (lines_of l)) (enclosing (statements_in l)) (listed (index_at l at))
      ∙ flat-each (λ j. flat_map (visible_parts (lines_of l)) (enclosing (statements_in l) j)) (menus_parts (lines_of l)) menus-are (listed (index_at l at)))

  least-both : (solution : Solution) (lines : List (Located Numbered)) (i : ℕ) (at : ℕ) (w : Option Form) →
      rules.parts_value solution.tree (known solution) (rules.dependency_parts (statements lines) i ++ map (rules.worth at) (listed w))
      ≡ lesser (rules.parts_value solution.tree (known solution) (rules.dependency_parts (statements lines) i)) (when_value solution w)
  least-both solution lines i at w =
      let f = rules.part_value solution.tree (known solution) in
      ap least (map-append (rules.part_value solution.tree (known solution)) (rules.dependency_parts (statements lines) i) (map (rules.worth at) (listed w)))
      ∙ least-append (map (rules.part_value solution.tree (known solution)) (rules.dependency_parts (statements lines) i)) (map (rules.part_value solution.tree (known solution)) (map (rules.worth at) (listed w)))
      ∙ ap (λ r. lesser (rules.parts_value solution.tree (known solution) (rules.dependency_parts (statements lines) i)) (least r)) (sym (map-twice (rules.part_value solution.tree (known solution)) (rules.worth at) (listed w)))

  -- the value of a line, from that of what its entry depends on
  pub line-value : {X : Type 0} (solution : Solution) (input : UserInput) (own : X → Option Form) (s : rules.Said X) →
      value_under solution (parts_value solution (dependency_parts (lines_of l) s.entry)) (own s.what) ≡ rules.line_value (statements_in l) solution.tree input (known solution) own s
  line-value solution input own s =
      ap (λ t. value_under solution t (own s.what)) (value-in (lines_of l) solution (rules.dependency_parts (statements_in l) s.entry))
      ∙ sym (least-both solution (lines_of l) s.entry s.at (own s.what))

-- ---- Prompts
module _ (l : Layout) where
  -- what the lines of an entry are seen as with its parts
  pub at-located : {Z : Type 0} (h : Part → List Z) (g : rules.ConditionPart → List Z) → ((q : rules.ConditionPart) → h (part_in (lines_of l) q) ≡ g q) → (ps : ℕ → List rules.ConditionPart) (o : Option ℕ) →
      flat_map h (flat_map (λ j. located (lines_of l) (ps j)) (listed o)) ≡ flat_map (λ j. flat_map g (ps j)) (listed o)
  at-located h g same ps None = refl
  at-located h g same ps (Some j) =
      ap (flat_map h) (append-nil (located (lines_of l) (ps j))) ∙ flat-map h (part_in (lines_of l)) (ps j) ∙ flat-each (λ q. h (part_in (lines_of l) q)) g same (ps j)
      ∙ sym (append-nil (flat_map g (ps j)))

  pub shown-located : (q : rules.Said (InputPrompt Form)) →
      located (lines_of l) (rules.shown_parts (statements_in l) q) ≡ menus_parts (lines_of l) q.entry ++ worth_parts (slice_get (lines_of l) q.at) (q.what).when
  shown-located q =
      map-append (part_in (lines_of l)) (flat_map (rules.parts_at (statements_in l) line_rules.visible_in) (filter (of_block (statements_in l) Block.Menu) (enclosing (statements_in l) q.entry))) (map (rules.worth q.at) (listed (q.what).when))
      ∙ ap (λ r. menus_parts (lines_of l) q.entry ++ r) (sym (map-twice (part_in (lines_of l)) (rules.worth q.at) (listed (q.what).when)))

  -- a prompt that counts, by what is read of it and by its place
  module _ {Z : Type 0} (K : List Part → List Part → Said (InputPrompt Form) → List Z) (F : rules.Said (InputPrompt Form) → List Z)
      (same : (q : rules.Said (InputPrompt Form)) → F q ≡ K (dependency_parts (lines_of l) q.entry) (menus_parts (lines_of l) q.entry) (said_in (lines_of l) q)) where
    abbrev pair : rules.Said (InputPrompt Form) → ℕ × Said (InputPrompt Form)
    pair q = (q.entry, said_in (lines_of l) q)

    abbrev tag : ℕ → Said (InputPrompt Form) → ℕ × Said (InputPrompt Form)
    tag i p = (i, p)

    abbrev given : ℕ × Said (InputPrompt Form) → List Z
    given p = K (dependency_parts (lines_of l) p.0) (menus_parts (lines_of l) p.0) p.1

    seen : (o : Option (rules.Said (InputPrompt Form))) → flat_map F (filter_map (λ (_ : ℕ). o) (0 ∷ [])) ≡ flat_map given (listed (option_map pair o))
    seen None = refl
    seen (Some q) = ap (λ r. r ++ []) (same q)

    placed : (i : ℕ) (o : Option (Said (InputPrompt Form))) → flat_map given (listed (option_map (tag i) o)) ≡ flat_map (K (dependency_parts (lines_of l) i) (menus_parts (lines_of l) i)) (listed o)
    placed i None = refl
    placed i (Some p) = refl

    listed-one : {A B : Type 0} (f : A → Option B) (x : A) (o : Option B) → f x ≡ o → filter_map f (x ∷ []) ≡ filter_map (λ (_ : ℕ). o) (0 ∷ [])
    listed-one f x o e = ap (λ r. cons_option r []) e

    prompt-there : (at : ℕ) (x : Entry) (is : IsEntry l at x) → flat_map F (rules.prompt_lines (statements_in l) (index_of l.entries is.number ∷ []))
        ≡ flat_map (K (dependency_parts (lines_of l) (index_of l.entries is.number)) (menus_parts (lines_of l) (index_of l.entries is.number))) (listed (last_of (said_of prompt_of (own_of l at))))
    prompt-there at x is =
        let i = index_of l.entries is.number in
        let one : Located Numbered → InputPrompt Form → ℕ × Said (InputPrompt Form) = λ o y. tag (index_of l.entries is.number) (record { line = Some o; what = y }) in
        let all = said-at prompt_of l at x is pair one (λ k o y h. λ j. tag (index_of l.entries is.number) (record { line = h j; what = y })) in
        let apart = sym (map-filter_map (tag (index_of l.entries is.number)) (said_one prompt_of) (λ (o : Located Numbered). option_map (one o) (prompt_of o.statement)) (λ o. both (prompt_of o.statement) o) (own_of l at)) in
        ap (flat_map F) (listed-one (λ j. last_of (rules.said_at (statements_in l) prompt_of j)) (index_of l.entries is.number) (last_of (rules.said_at (statements_in l) prompt_of (index_of l.entries is.number))) refl)
        ∙ seen (last_of (rules.said_at (statements_in l) prompt_of (index_of l.entries is.number)))
        ∙ ap (λ o. flat_map given (listed o)) (sym (last_of-map pair (rules.said_at (statements_in l) prompt_of (index_of l.entries is.number))) ∙ ap last_of (all ∙ apart)
        ∙ last_of-map (tag (index_of l.entries is.number)) (said_of prompt_of (own_of l at)))
        ∙ placed (index_of l.entries is.number) (last_of (said_of prompt_of (own_of l at)))
      where
        both : (r : Option (InputPrompt Form)) (o : Located Numbered) → option_map (tag (index_of l.entries is.number)) (option_map (λ y. record { line = Some o; what = y }) r)
            ≡ option_map (λ y. tag (index_of l.entries is.number) (record { line = Some o; what = y })) r
        both None o = refl
        both (Some y) o = refl

    prompt-by : (at : ℕ) (o : Option (Said (InputPrompt Form))) (e : Option Entry) → entry_at l at ≡ e → o ≡ last_of (said_of prompt_of (own_of l at)) →
        flat_map (K (flat_map (dependency_parts (lines_of l)) (listed (index_at l at))) (flat_map (menus_parts (lines_of l)) (listed (index_at l at)))) (listed o)
        ≡ flat_map (λ j. flat_map F (rules.prompt_lines (statements_in l) (j ∷ []))) (listed (index_at l at))
    prompt-by at o None h e =
        ap (λ r. flat_map (K (flat_map (dependency_parts (lines_of l)) (listed (index_at l at))) (flat_map (menus_parts (lines_of l)) (listed (index_at l at)))) (listed r))
        (e ∙ ap (λ r. last_of (said_of prompt_of r)) (sym (own-none l at (sym h))))
        ∙ sym (at-none l (λ j. flat_map F (rules.prompt_lines (statements_in l) (j ∷ []))) at h)
    prompt-by at o (Some x) h e =
        let is = entry-there l at x h in
        (λ j. flat_map (K (at-there l (dependency_parts (lines_of l)) at x is j) (at-there l (menus_parts (lines_of l)) at x is j)) (listed (e j)))
        ∙ sym (prompt-there at x is)
        ∙ sym (at-there l (λ j. flat_map F (rules.prompt_lines (statements_in l) (j ∷ []))) at x is)

    pub prompt-given : (at : ℕ) (o : Option (Said (InputPrompt Form))) → o ≡ last_of (said_of prompt_of (own_of l at)) →
        flat_map (K (flat_map (dependency_parts (lines_of l)) (listed (index_at l at))) (flat_map (menus_parts (lines_of l)) (listed (index_at l at)))) (listed o)
        ≡ flat_map (λ j. flat_map F (rules.prompt_lines (statements_in l) (j ∷ []))) (listed (index_at l at))
    prompt-given at o e = prompt-by at o (entry_at l at) refl e
