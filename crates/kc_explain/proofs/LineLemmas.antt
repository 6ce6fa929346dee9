-- The lines of one entry of a layout, among all lines.
use Rattle.std.proofs.Common.{◌≡◌, ℕ, zero, suc, ◌+◌, List, [], ◌∷◌, ◌++◌, map, Option, Some, None, refl, ap, sym, ◌∙◌, arith, append-nil}
use Rattle.std.specs.List.{cons_option, enumerate_from, filter_map, flat_map, slice_get}
use Rattle.std.specs.Prelude.{option_map}
use Rattle.std.proofs.lemmas.Option.{slice_get-map}
use Rattle.kc_language.specs.Expansion.{attributes}
use Rattle.kc_outcome.specs.Explanations as rules
use Rattle.kc_language.specs.Statements.{Located, Numbered, statements}
use Rattle.kc_language.specs.Symbols.{listed}
use Rattle.kc_entries.specs.Entries.{attribute_line, first_line, own_lines}
use Rattle.kc_entries.specs.declared.entries.AttributeLine.{AttributeLine}
use Rattle.kc_entries.specs.declared.entries.Entries.{Entries}
use Rattle.kc_entries.specs.declared.entries.Entry.{Entry}
use Rattle.kc_tree.specs.EntryViews.{index_of, own_attributes}
use Rattle.kc_tree.specs.Layouts.{entry_at, index_at, statements_in}
use Rattle.kc_tree.specs.declared.layout.Layout.{Layout}
use Rattle.kc_tree.specs.declared.rows.EntryId.{EntryId}
use Rattle.kc_tree.proofs.IndexLemmas.{attribute-line-there, attributes-is, line-there}
use Rattle.kc_explain.specs.LineViews.{AreAt, at_entry, line_at, lines_of, own_of}

-- ---- Lists
statements-own : (x : Entry) (own : List AttributeLine) → statements (own_lines x own) ≡ map (λ (a : AttributeLine). (attribute_line x.file.value.items a.line a.attribute).statement) own
statements-own x [] = refl
statements-own x (a ∷ own) = ap (λ r. (attribute_line x.file.value.items a.line a.attribute).statement ∷ r) (statements-own x own)

-- ---- An entry that is there
pub record IsEntry (l : Layout) (at : ℕ) (x : Entry) : Type 0 where
  pub number : ℕ
  pub stored : at ≡ suc number
  pub found : slice_get l.entries.first_lines.items number ≡ Some x
  pub index : index_at l at ≡ Some (index_of l.entries number)
  pub first : slice_get (lines_of l) (index_of l.entries number) ≡ Some (first_line x)
  pub said : attributes (statements_in l) (index_of l.entries number) ≡ statements (own_of l at)
  pub stands : (j : ℕ) (o : Located Numbered) → slice_get (own_of l at) j ≡ Some o → slice_get (lines_of l) (suc (index_of l.entries number) + j) ≡ Some o

module _ (l : Layout) where
  abbrev es : Entries
  es = l.entries

  pub own-is : (e : ℕ) (x : Entry) → slice_get es.first_lines.items e ≡ Some x → own_of l (suc e) ≡ own_lines x (own_attributes es e)
  own-is e x h =
      ap (λ (o : Option Entry). flat_map (λ (y : Entry). own_lines y (own_attributes es e)) (listed o)) h
      ∙ append-nil (own_lines x (own_attributes es e))

  stands-by : (e : ℕ) (x : Entry) (j : ℕ) (o : Located Numbered) (a : Option AttributeLine) → slice_get es.first_lines.items e ≡ Some x → slice_get (own_attributes es e) j ≡ a →
      option_map (λ (b : AttributeLine). attribute_line x.file.value.items b.line b.attribute) a ≡ Some o → slice_get (lines_of l) (suc (index_of es e) + j) ≡ Some o
  stands-by e x j o None h g q = absurd cc
  stands-by e x j o (Some a) h g q = attribute-line-there es e x h j a g ∙ q

  stands-at : (e : ℕ) (x : Entry) → slice_get es.first_lines.items e ≡ Some x → (j : ℕ) (o : Located Numbered) → slice_get (own_of l (suc e)) j ≡ Some o →
      slice_get (lines_of l) (suc (index_of es e) + j) ≡ Some o
  stands-at e x h j o g =
      let see : AttributeLine → Located Numbered = λ b. attribute_line x.file.value.items b.line b.attribute in
      stands-by e x j o (slice_get (own_attributes es e) j) h refl
      (sym (slice_get-map see (own_attributes es e) j) ∙ ap (λ r. slice_get r j) (sym (own-is e x h)) ∙ g)

  entry-is : (e : ℕ) (x : Entry) → slice_get es.first_lines.items e ≡ Some x → IsEntry l (suc e) x
  entry-is e x h = record {
    number = e;
    stored = refl;
    found = h;
    index = ap (option_map (λ (y : Entry). index_of es e)) h;
    first = line-there es e x h;
    said = attributes-is es e ∙ sym (ap statements (own-is e x h) ∙ statements-own x (own_attributes es e));
    stands = stands-at e x h;
  }

  pub entry-there : (at : ℕ) (x : Entry) → entry_at l at ≡ Some x → IsEntry l at x
  entry-there zero x h = absurd cc
  entry-there (suc e) x h = entry-is e x h

  -- one that is not there has no index
  pub entry-none : (at : ℕ) → entry_at l at ≡ None → index_at l at ≡ None
  entry-none zero h = refl
  entry-none (suc e) h = ap (option_map (λ (y : Entry). index_of es e)) h

  -- what is given at the index of an entry
  pub at-there : {X : Type 0} (f : ℕ → List X) (at : ℕ) (x : Entry) (is : IsEntry l at x) → flat_map f (listed (index_at l at)) ≡ f (index_of l.entries is.number)
  at-there f at x is = ap (λ o. flat_map f (listed o)) is.index ∙ append-nil (f (index_of l.entries is.number))

  pub at-none : {X : Type 0} (f : ℕ → List X) (at : ℕ) → entry_at l at ≡ None → flat_map f (listed (index_at l at)) ≡ []
  at-none f at h = ap (λ o. flat_map f (listed o)) (entry-none at h)

  -- of entries at these indices
  given : {X : Type 0} (f : ℕ → List X) (os : List (Option ℕ)) (is : List ℕ) → os ≡ map Some is → flat_map (λ o. flat_map f (listed o)) os ≡ flat_map f is
  given f os is e = ap (flat_map (λ o. flat_map f (listed o))) e ∙ each is
    where
      each : (js : List ℕ) → flat_map (λ o. flat_map f (listed o)) (map Some js) ≡ flat_map f js
      each [] = refl
      each (j ∷ js) = (λ i. append-nil (f j) i ++ each js i)

  seen-at : {X : Type 0} (f : ℕ → List X) (entries : List EntryId) →
      flat_map (at_entry l f) entries ≡ flat_map (λ o. flat_map f (listed o)) (map (λ (e : EntryId). index_at l e.0) entries)
  seen-at f [] = refl
  seen-at f (e ∷ entries) = ap (λ r. at_entry l f e ++ r) (seen-at f entries)

  pub over-entries : {X : Type 0} (f : ℕ → List X) (entries : List EntryId) (is : List ℕ) → AreAt l entries is → flat_map (at_entry l f) entries ≡ flat_map f is
  over-entries f entries is e = seen-at f entries ∙ given f (map (λ (e : EntryId). index_at l e.0) entries) is e

-- ---- What the lines of an entry say
-- of lines that stand from a place on, seen by their places and by themselves
module _ {X Y : Type 0} (read : Numbered → Option X) (lines : List (Located Numbered)) (i : ℕ) (v : rules.Said X → Y) (w : Located Numbered → X → Y)
    (same : (k : ℕ) (o : Located Numbered) (x : X) → slice_get lines k ≡ Some o → v (record { entry = i; at = k; what = x }) ≡ w o x) where
  abbrev one : ℕ → Numbered → Option (rules.Said X)
  one k s = option_map (λ x. record { entry = i; at = k; what = x }) (read s)

  said-one : (k : ℕ) (o : Located Numbered) (r : Option X) (rest : List (rules.Said X)) (more : List Y) → slice_get lines k ≡ Some o → map v rest ≡ more →
      map v (cons_option (option_map (λ x. record { entry = i; at = k; what = x }) r) rest) ≡ cons_option (option_map (w o) r) more
  said-one k o None rest more h e = e
  said-one k o (Some x) rest more h e = (λ j. same k o x h j ∷ e j)

  pub said-from : (p : ℕ) (own : List (Located Numbered)) → ((j : ℕ) (o : Located Numbered) → slice_get own j ≡ Some o → slice_get lines (p + j) ≡ Some o) →
      map v (filter_map (λ (k, s). one k s) (enumerate_from p (statements own))) ≡ filter_map (λ (o : Located Numbered). option_map (w o) (read o.statement)) own
  said-from p [] h = refl
  said-from p (o ∷ own) h =
      let here : slice_get lines p ≡ Some o = (let z : p + 0 ≡ p = omega arith in ap (slice_get lines) (sym z) ∙ h 0 o refl) in
      said-one p o (read o.statement) (filter_map (λ (k, s). one k s) (enumerate_from (p + 1) (statements own)))
      (filter_map (λ (o : Located Numbered). option_map (w o) (read o.statement)) own) here
      (said-from (p + 1) own (λ j q g. let z : p + 1 + j ≡ p + suc j = omega arith in ap (slice_get lines) z ∙ h (suc j) q g))

-- of an entry
module _ {X Y : Type 0} (read : Numbered → Option X) (l : Layout) (at : ℕ) (x : Entry) (is : IsEntry l at x) (v : rules.Said X → Y) (w : Located Numbered → X → Y) where
  pub said-at : ((k : ℕ) (o : Located Numbered) (y : X) → slice_get (lines_of l) k ≡ Some o → v (record { entry = index_of l.entries is.number; at = k; what = y }) ≡ w o y) →
      map v (rules.said_at (statements_in l) read (index_of l.entries is.number)) ≡ filter_map (λ (o : Located Numbered). option_map (w o) (read o.statement)) (own_of l at)
  said-at same =
      ap (λ ss. map v (filter_map (λ (k, s). option_map (λ y. record { entry = index_of l.entries is.number; at = k; what = y }) (read s)) (enumerate_from (suc (index_of l.entries is.number)) ss))) is.said
      ∙ said-from read (lines_of l) (index_of l.entries is.number) v w same (suc (index_of l.entries is.number)) (own_of l at) is.stands

-- an entry without a first line has no list
pub line-none : {X : Type 0} (l : Layout) (f : ℕ → List X) (at : ℕ) → None ≡ line_at l at → [] ≡ flat_map f (listed (index_at l at))
line-none l f at h = by (entry_at l at) refl
  where
    by : (o : Option Entry) → entry_at l at ≡ o → [] ≡ flat_map f (listed (index_at l at))
    by None e = sym (at-none l f at e)
    by (Some x) e = absurd (let no : None ≡ Some (first_line x) = h ∙ ap (option_map first_line) e in cc)
