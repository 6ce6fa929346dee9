-- Where entries and their attributes stand among all lines, and what stands there.
use Rattle.std.proofs.{Common.{List, None, Option, Some, [], add-one, ap, arith, cond, drop, false, inl, inr, length, refl, suc, sym, take_while, true, zero, ℕ, ◌++◌, ◌+◌, ◌-◌, ◌<◌, ◌∙◌, ◌∷◌, ◌≡◌, ◌≤◌}, Math.Seq.{drop-append-add, drop-nil}, lemmas.{Grind.flat_map-append, List.{Sums.take_while-cons, append-nil, drop-map, length-append, length-drop, length-map, length-take-le, map-append}, Option.slice_get-map}}
use Rattle.std.specs.{List.{flat_map, slice_get}, Option.option_and_then, Prelude.{option_map, ◌⊎◌}}
use Rattle.kc_language.specs.{Expansion.{attributes, defined_name, is_attribute, numbers}, Statements.{Located, Numbered, statements}, Symbols.symbol_at}
use Rattle.kc_entries.specs.{Entries.{IsEntryAt, attribute_line, first_line, lines_from, lines_in, lines_of, own_lines, own_of, start_at}, EntryStarts.{AreInOrder, start_of}, StatementViews.{attribute_view, head_view}, declared.{entries.{AttributeLine.AttributeLine, Entries.Entries, Entry.Entry, EntryLines.EntryLines}, statement.{Attribute.Attribute, Head.Head}}}
use Rattle.kc_entries.specs.declared.statement.Attribute.TheVariants as attribute
use Rattle.kc_entries.specs.declared.statement.Head.TheVariants as head
use Rattle.kc_entries.proofs.{EntryLemmas.{front-is, none-left, starts-before, starts-within}, PlaceLemmas.{drop-dropped, flat_map-next, front_get, get-dropped, get_front, there_in}}
use Rattle.kc_tree.specs.EntryViews.{attribute_at, entry_count, entry_symbol, head_at, index_at, index_of, own_attributes, said_by, statements_in, statements_of}
use Rattle.kc_tree.proofs.ListLemmas.{get-drop, get-take, map-map_is}

-- Lists.
none-there : {X : Type 0} (xs : List X) (k : ℕ) → drop k xs ≡ [] → slice_get xs k ≡ None
none-there [] k e = refl
none-there (x ∷ xs) zero e = absurd cc
none-there (x ∷ xs) (suc k) e = none-there xs k e

drop-after : {X : Type 0} (xs : List X) (k : ℕ) → drop k xs ≡ [] → drop (suc k) xs ≡ []
drop-after [] k e = refl
drop-after (x ∷ xs) zero e = absurd cc
drop-after (x ∷ xs) (suc k) e = drop-after xs k e

behind : {X : Type 0} (f : X) (own more : List X) (e a b c : ℕ) → length own ≡ b - a → a ≤ b → b ≤ c → drop (suc e + (c - a)) (f ∷ (own ++ more)) ≡ drop (e + (c - b)) more
behind f own more e a b c size up next =
    let z : suc e + (c - a) ≡ suc (length own + (e + (c - b))) = omega (arith, size, up, next) in
    ap (λ n. drop n (f ∷ (own ++ more))) z ∙ drop-append-add own more (e + (c - b))

-- Entries begin one behind the other.
starts-up : (e : ℕ) (xs : List Entry) (n : ℕ) → AreInOrder xs n → start_of xs n ≤ start_of (drop e xs) n
starts-up zero xs n o = omega arith
starts-up (suc e) [] n o = omega arith
starts-up (suc e) (x ∷ xs) n o = let h = starts-up e xs n o.1 in let g = o.0 in omega (arith, h, g)

own-count : (x : Entry) (end : ℕ) (ls : List AttributeLine) → x.start ≤ end → end ≤ length ls → length (own_of x end ls) ≡ end - x.start
own-count x end ls up within = length-take-le (end - x.start) (drop x.start ls) (let d = length-drop x.start ls in omega (arith, d, up, within))

dropped : (ls : List AttributeLine) (e : ℕ) (xs : List Entry) → AreInOrder xs (length ls) →
    drop (e + (start_of (drop e xs) (length ls) - start_of xs (length ls))) (lines_of xs ls) ≡ lines_of (drop e xs) ls
dropped ls zero xs o = let z : 0 + (start_of xs (length ls) - start_of xs (length ls)) ≡ 0 = omega arith in ap (λ n. drop n (lines_of xs ls)) z
dropped ls (suc e) [] o = drop-nil (suc e + (length ls - length ls))
dropped ls (suc e) (x ∷ xs) o =
    let b = start_of xs (length ls) in
    let own = own_of x (start_of xs (length ls)) ls in
    let size : length (own_lines x own) ≡ start_of xs (length ls) - x.start = length-map own _ ∙ own-count x (start_of xs (length ls)) ls (o.0) (starts-within 0 xs (length ls) o.1) in
    behind (first_line x) (own_lines x own) (lines_of xs ls) e x.start b (start_of (drop e xs) (length ls)) size (o.0) (starts-up e xs (length ls) o.1)
    ∙ dropped ls e xs o.1

-- A line that begins an entry is no attribute, and the others are.
pub attribute-is : (a : Attribute) → is_attribute (attribute_view a) ≡ true
attribute-is attribute.Help = refl
attribute-is _ = refl

pub head-is-none : (h : Head) → is_attribute (head_view h) ≡ false
head-is-none head.EndIf = refl
head-is-none _ = refl

said-own : (x : Entry) (l : List AttributeLine) → statements (own_lines x l) ≡ statements_of l
said-own x l = map-map_is (λ (s : Located Numbered). s.statement) _ l

statements-append : (xs ys : List (Located Numbered)) → statements (xs ++ ys) ≡ statements xs ++ statements ys
statements-append xs ys = map-append (λ (s : Located Numbered). s.statement) xs ys

take-own : (l : List AttributeLine) (more : List Numbered) → take_while is_attribute more ≡ [] → take_while is_attribute (statements_of l ++ more) ≡ statements_of l
take-own [] more e = e
take-own (a ∷ l) more e =
    take_while-cons is_attribute (attribute_view a.attribute) (statements_of l ++ more)
    ∙ ap (λ b. cond b (attribute_view a.attribute ∷ take_while is_attribute (statements_of l ++ more)) []) (attribute-is a.attribute)
    ∙ ap (λ r. attribute_view a.attribute ∷ r) (take-own l more e)

stops : (xs : List Entry) (ls : List AttributeLine) → take_while is_attribute (statements (lines_of xs ls)) ≡ []
stops [] ls = refl
stops (x ∷ xs) ls =
    let more = statements (own_lines x (own_of x (start_of xs (length ls)) ls) ++ lines_of xs ls) in
    take_while-cons is_attribute (head_view x.head) more ∙ ap (λ b. cond b (head_view x.head ∷ take_while is_attribute more) []) (head-is-none x.head)

module _ (es : Entries) where
  abbrev first_lines : List Entry
  first_lines = es.first_lines.items

  abbrev ls : List AttributeLine
  ls = es.attributes.items

  abbrev ss : List Numbered
  ss = statements_in es

  pub lines-at : (e : ℕ) → drop (index_of es e) (lines_in es) ≡ lines_from es e
  lines-at e = dropped ls e first_lines es.in_order

  statements-at : (e : ℕ) → drop (index_of es e) ss ≡ statements (lines_from es e)
  statements-at e = drop-map (λ (l : Located Numbered). l.statement) (index_of es e) (lines_in es) ∙ ap statements (lines-at e)

  -- what an entry says, where it is there
  pub said-there : (e : ℕ) (x : Entry) → slice_get first_lines e ≡ Some x → said_by es e ≡ statements_of (own_of x (start_at es (suc e)) ls)
  said-there e x h = ap (λ (o : Option Entry). statements_of (elim o [ None ↦ [] | Some y ↦ own_of y (start_at es (suc e)) ls ])) h

  from-there : (e : ℕ) (x : Entry) → slice_get first_lines e ≡ Some x → drop (index_of es e) ss ≡ head_view x.head ∷ (said_by es e ++ statements (lines_from es (suc e)))
  from-there e x h =
      let own = own_of x (start_at es (suc e)) ls in
      statements-at e
      ∙ ap (λ l. statements (lines_of l ls)) (front-is e first_lines x h)
      ∙ ap (λ r. head_view x.head ∷ r) (statements-append (own_lines x own) (lines_from es (suc e)) ∙ ap (λ r. r ++ statements (lines_from es (suc e))) (said-own x own ∙ sym (said-there e x h)))

  past : (e : ℕ) → slice_get first_lines e ≡ None → drop (index_of es e) ss ≡ []
  past e h = statements-at e ∙ ap (λ l. statements (lines_of l ls)) (none-left e first_lines h)

  -- The line that begins an entry stands at its index, and its attributes behind it.
  abbrev Cases : ℕ → Type 0
  Cases e = ((x : Entry) × (slice_get first_lines e ≡ Some x)) ⊎ (slice_get first_lines e ≡ None)

  cases-of : (e : ℕ) (o : Option Entry) → slice_get first_lines e ≡ o → Cases e
  cases-of e None h = inr h
  cases-of e (Some x) h = inl (x, h)

  pub cases : (e : ℕ) → Cases e
  cases e = cases-of e (slice_get first_lines e) refl

  pub head-there : (e : ℕ) (x : Entry) → slice_get first_lines e ≡ Some x → slice_get ss (index_of es e) ≡ Some (head_view x.head)
  head-there e x h = get-dropped ss (index_of es e) (head_view x.head) (said_by es e ++ statements (lines_from es (suc e))) (from-there e x h)

  pub head-is : (e : ℕ) → slice_get ss (index_of es e) ≡ head_at es e
  head-is e = by (cases e)
    where
      by : Cases e → slice_get ss (index_of es e) ≡ head_at es e
      by (inl x) = head-there e x.0 x.1 ∙ sym (ap (option_map (λ (y : Entry). head_view y.head)) x.1)
      by (inr h) = none-there ss (index_of es e) (past e h) ∙ sym (ap (option_map (λ (y : Entry). head_view y.head)) h)

  pub attributes-is : (e : ℕ) → attributes ss (index_of es e) ≡ said_by es e
  attributes-is e = by (cases e)
    where
      by : Cases e → attributes ss (index_of es e) ≡ said_by es e
      by (inl x) =
          ap (λ n. take_while is_attribute (drop n ss)) (sym (add-one (index_of es e)))
          ∙ ap (take_while is_attribute) (drop-dropped ss (index_of es e) (head_view x.0.head) (said_by es e ++ statements (lines_from es (suc e))) (from-there e x.0 x.1))
          ∙ ap (λ l. take_while is_attribute (l ++ statements (lines_from es (suc e)))) (said-there e x.0 x.1)
          ∙ take-own (own_of x.0 (start_at es (suc e)) ls) (statements (lines_from es (suc e))) (stops (drop (suc e) first_lines) ls)
          ∙ sym (said-there e x.0 x.1)
      by (inr h) =
          ap (take_while is_attribute) (drop-after ss (index_of es e) (past e h))
          ∙ sym (ap (λ (o : Option Entry). statements_of (elim o [ None ↦ [] | Some y ↦ own_of y (start_at es (suc e)) ls ])) h)

  pub symbol-is : (e : ℕ) → symbol_at ss (index_of es e) ≡ entry_symbol es e
  symbol-is e = ap (option_and_then defined_name) (head-is e)

  pub index-there : (e : ℕ) (x : Entry) → slice_get first_lines e ≡ Some x → index_at es (suc e) ≡ Some (index_of es e)
  index-there e x h = ap (option_map (λ (y : Entry). index_of es e)) h

  -- The next entry stands behind the attributes.
  pub said-count : (e : ℕ) (x : Entry) → slice_get first_lines e ≡ Some x → length (said_by es e) ≡ start_at es (suc e) - start_at es e
  said-count e x h =
      let begin : start_at es e ≡ x.start = ap (λ l. start_of l (length ls)) (front-is e first_lines x h) in
      ap length (said-there e x h) ∙ length-map (own_of x (start_at es (suc e)) ls) _
      ∙ own-count x (start_at es (suc e)) ls (starts-before e first_lines x (length ls) es.in_order h) (starts-within (suc e) first_lines (length ls) es.in_order)
      ∙ ap (λ n. start_at es (suc e) - n) (sym begin)

  pub index-next : (e : ℕ) (x : Entry) → slice_get first_lines e ≡ Some x → index_of es (suc e) ≡ suc (index_of es e) + length (said_by es e)
  index-next e x h =
      let begin : start_at es e ≡ x.start = ap (λ l. start_of l (length ls)) (front-is e first_lines x h) in
      let up = starts-before e first_lines x (length ls) es.in_order h in
      let first = starts-up e first_lines (length ls) es.in_order in
      let count = said-count e x h in
      omega (arith, begin, up, first, count)

  pub index-first : index_of es 0 ≡ 0
  index-first = omega arith

  -- An attribute stands so many lines behind its entry.
  pub attribute-there : (e j : ℕ) (x : Entry) → slice_get first_lines e ≡ Some x → j < length (said_by es e) → slice_get ss (suc (index_of es e) + j) ≡ slice_get (said_by es e) j
  attribute-there e j x h l =
      let s = there_in (said_by es e) j l in
      let here : slice_get (said_by es e ++ statements (lines_from es (suc e))) j ≡ slice_get (said_by es e) j = get_front (said_by es e) (statements (lines_from es (suc e))) j l in
      sym (get-drop ss (suc (index_of es e)) j)
      ∙ ap (λ n. slice_get (drop n ss) j) (sym (add-one (index_of es e)))
      ∙ ap (λ r. slice_get r j) (drop-dropped ss (index_of es e) (head_view x.head) (said_by es e ++ statements (lines_from es (suc e))) (from-there e x h))
      ∙ here

  -- the attributes of an entry among all attributes
  pub attribute-said : (e j : ℕ) → e < entry_count es → j < length (said_by es e) → attribute_at es (start_at es e + j) ≡ slice_get (said_by es e) j
  attribute-said e j h b =
      let x = there_in first_lines e h in
      let begin : start_at es e ≡ (x.0).start = ap (λ fs. start_of fs (length ls)) (front-is e first_lines (x.0) (x.1)) in
      let count = said-count e (x.0) (x.1) in
      let see : AttributeLine → Numbered = λ a. attribute_view a.attribute in
      ap (λ n. option_map see (slice_get ls (n + j))) begin
      ∙ ap (option_map see) (sym (get-take (drop (x.0).start ls) (start_at es (suc e) - (x.0).start) j (omega (arith, b, count, begin)) ∙ get-drop ls (x.0).start j))
      ∙ sym (slice_get-map see (own_of (x.0) (start_at es (suc e)) ls) j)
      ∙ ap (λ r. slice_get r j) (sym (said-there e (x.0) (x.1)))

  -- What holds of all lines but attributes, by the entries alone.
  abbrev OfEntries : {X : Type 0} → (ℕ → List X) → Type 0
  OfEntries f = (i : ℕ) (s : Numbered) → slice_get ss i ≡ Some s → is_attribute s ≡ true → f i ≡ []

  said-attribute : (l : List AttributeLine) (j : ℕ) (s : Numbered) → slice_get (statements_of l) j ≡ Some s → is_attribute s ≡ true
  said-attribute [] j s h = absurd cc
  said-attribute (a ∷ l) zero s h = let same : attribute_view a.attribute ≡ s = cc in ap is_attribute (sym same) ∙ attribute-is a.attribute
  said-attribute (a ∷ l) (suc j) s h = said-attribute l j s h

  module _ {X : Type 0} (f : ℕ → List X) (of : OfEntries f) where
    gap : (e : ℕ) (x : Entry) → slice_get first_lines e ≡ Some x → (k : ℕ) → k ≤ length (said_by es e) → flat_map f (numbers (suc (index_of es e) + k)) ≡ flat_map f (numbers (index_of es e)) ++ f (index_of es e)
    gap e x h zero l =
        let z : suc (index_of es e) + 0 ≡ index_of es e + 1 = omega arith in
        ap (λ n. flat_map f (numbers n)) z ∙ flat_map-next f (index_of es e)
    gap e x h (suc k) l =
        let z : suc (index_of es e) + suc k ≡ (suc (index_of es e) + k) + 1 = omega arith in
        let s = there_in (said_by es e) k (omega (arith, l)) in
        let is : is_attribute (s.0) ≡ true = said-attribute (own_of x (start_at es (suc e)) ls) k (s.0) (ap (λ r. slice_get r k) (sym (said-there e x h)) ∙ s.1) in
        let none : f (suc (index_of es e) + k) ≡ [] = of (suc (index_of es e) + k) (s.0) (attribute-there e k x h (omega (arith, l)) ∙ s.1) is in
        ap (λ n. flat_map f (numbers n)) z ∙ flat_map-next f (suc (index_of es e) + k) ∙ ap (λ r. flat_map f (numbers (suc (index_of es e) + k)) ++ r) none
        ∙ append-nil _ ∙ gap e x h k (omega (arith, l))

    pub flat-before : (e : ℕ) → e ≤ entry_count es → flat_map f (numbers (index_of es e)) ≡ flat_map (λ k. f (index_of es k)) (numbers e)
    flat-before zero l = ap (λ n. flat_map f (numbers n)) index-first
    flat-before (suc e) l =
        let x = there_in first_lines e (omega (arith, l)) in
        ap (λ n. flat_map f (numbers n)) (index-next e (x.0) (x.1))
        ∙ gap e (x.0) (x.1) (length (said_by es e)) (omega arith)
        ∙ ap (λ r. r ++ f (index_of es e)) (flat-before e (omega (arith, l)))
        ∙ sym (flat_map-append (λ k. f (index_of es k)) (numbers e) (e ∷ []) ∙ ap (λ r. flat_map (λ k. f (index_of es k)) (numbers e) ++ r) (append-nil (f (index_of es e))))

  lines-count : (xs : List Entry) → AreInOrder xs (length ls) → length (lines_of xs ls) ≡ length xs + (length ls - start_of xs (length ls))
  lines-count [] o = omega arith
  lines-count (x ∷ xs) o =
      let own = own_of x (start_of xs (length ls)) ls in
      let size : length (own_lines x own) ≡ start_of xs (length ls) - x.start = length-map own _ ∙ own-count x (start_of xs (length ls)) ls (o.0) (starts-within 0 xs (length ls) o.1) in
      let all = length-append (own_lines x own) (lines_of xs ls) in
      let more = lines-count xs (o.1) in
      let within = starts-within 0 xs (length ls) (o.1) in
      let up = o.0 in
      omega (arith, size, all, more, within, up)

  past-start : (xs : List Entry) (n k : ℕ) → length xs ≤ k → start_of (drop k xs) n ≡ n
  past-start [] n zero l = refl
  past-start [] n (suc k) l = refl
  past-start (x ∷ xs) n zero l = absurd (omega (arith, l))
  past-start (x ∷ xs) n (suc k) l = past-start xs n k (omega (arith, l))

  pub index-end : index_of es (entry_count es) ≡ length ss
  index-end =
      let all = lines-count first_lines es.in_order in
      let same = length-map (lines_in es) (λ (l : Located Numbered). l.statement) in
      let end = past-start first_lines (length ls) (length first_lines) (omega arith) in
      omega (arith, all, same, end)

  pub flat-entries : {X : Type 0} (f : ℕ → List X) → OfEntries f → flat_map f (numbers (length ss)) ≡ flat_map (λ k. f (index_of es k)) (numbers (entry_count es))
  flat-entries f of = ap (λ n. flat_map f (numbers n)) (sym index-end) ∙ flat-before f of (entry_count es) (omega arith)

-- The entry that was read by its number.
none-from : (es : Entries) (e : ℕ) (o : Option Entry) → slice_get es.first_lines.items e ≡ o → lines_from es e ≡ [] → slice_get es.first_lines.items e ≡ None
none-from es e None h n = h
none-from es e (Some x) h n = absurd (let no : [] ≡ first_line x ∷ _ = sym n ∙ ap (λ l. lines_of l es.attributes.items) (front-is e es.first_lines.items x h) in cc)

pub entry-first : (es : Entries) (e : ℕ) (o : Option EntryLines) → IsEntryAt es e o → option_map (λ x. x.first.now) o ≡ slice_get es.first_lines.items e
entry-first es e None is = sym (none-from es e (slice_get es.first_lines.items e) refl is)
entry-first es e (Some x) is = sym is.first

-- The lines themselves, with their files and numbers.
module _ (es : Entries) (e : ℕ) (x : Entry) (h : slice_get es.first_lines.items e ≡ Some x) where
  lines-there : drop (index_of es e) (lines_in es) ≡ first_line x ∷ (own_lines x (own_of x (start_at es (suc e)) es.attributes.items) ++ lines_from es (suc e))
  lines-there = lines-at es e ∙ ap (λ l. lines_of l es.attributes.items) (front-is e es.first_lines.items x h)

  pub line-there : slice_get (lines_in es) (index_of es e) ≡ Some (first_line x)
  line-there = get-dropped (lines_in es) (index_of es e) (first_line x) _ lines-there

  pub own-there : own_attributes es e ≡ own_of x (start_at es (suc e)) es.attributes.items
  own-there = ap (λ (o : Option Entry). elim o [ None ↦ [] | Some y ↦ own_of y (start_at es (suc e)) es.attributes.items ]) h

  pub attribute-line-there : (j : ℕ) (a : AttributeLine) → slice_get (own_attributes es e) j ≡ Some a →
      slice_get (lines_in es) (suc (index_of es e) + j) ≡ Some (attribute_line x.file.value.items a.line a.attribute)
  attribute-line-there j a g =
      let own = own_of x (start_at es (suc e)) es.attributes.items in
      let see : AttributeLine → Located Numbered = λ b. attribute_line x.file.value.items b.line b.attribute in
      let there : slice_get (own_lines x (own_of x (start_at es (suc e)) es.attributes.items)) j ≡ Some (attribute_line x.file.value.items a.line a.attribute) =
      slice_get-map see (own_of x (start_at es (suc e)) es.attributes.items) j ∙ ap (option_map see) (ap (λ r. slice_get r j) (sym own-there) ∙ g) in
      sym (get-drop (lines_in es) (suc (index_of es e)) j)
      ∙ ap (λ n. slice_get (drop n (lines_in es)) j) (sym (add-one (index_of es e)))
      ∙ ap (λ r. slice_get r j) (drop-dropped (lines_in es) (index_of es e) (first_line x) (own_lines x (own_of x (start_at es (suc e)) es.attributes.items) ++ lines_from es (suc e)) lines-there)
      ∙ front_get (own_lines x (own_of x (start_at es (suc e)) es.attributes.items)) (lines_from es (suc e)) j (attribute_line x.file.value.items a.line a.attribute) there
