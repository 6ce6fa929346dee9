-- The ranges of a symbol, by their lines.
use Rattle.std.proofs.Common.{◌≡◌, ℕ, Bool, true, false, cond, List, [], ◌++◌, map, filter, Option, Some, None, refl, ap, sym, ◌∙◌, append-nil}
use Rattle.std.specs.Prelude.{codes, if◌then◌else◌, not, option_map}
use Rattle.std.specs.List.{filter_map, flat_map}
use Rattle.kc_language.specs.{Expressions.Form, Statements.{Located, Numbered, statements}, Symbols.{Bounds, TreeFacts, definitions_of, listed, range_in}}
use Rattle.kc_language.specs.{Values.{facts, type_in}, declared.expressions.{SymId.SymId, SymbolType.SymbolType}}
use Rattle.kc_outcome.specs.Explanations as rules
use Rattle.kc_entries.specs.declared.entries.Entry.{Entry}
use Rattle.kc_tree.specs.EntryViews.{index_of}
use Rattle.kc_tree.specs.Layouts.{entry_at, index_at, statements_in}
use Rattle.kc_tree.specs.declared.{layout.Layout.Layout, rows.EntryId.EntryId}
use Rattle.kc_tree.proofs.ListLemmas.{flat-each, flat-filter, flat-filter_map, flat-flat, flat-map}
use Rattle.kc_explain.specs.LineViews.{AreAt, at_entry, lines_of, own_of}
use Rattle.kc_explain.specs.PartViews.{said_in}
use Rattle.kc_explain.specs.RangeLines.{allows, holds_number, range_lines, range_words}
use Rattle.kc_explain.specs.RangeViews.{entry_told, line_told, told}
use Rattle.kc_explain.specs.declared.{range_lines.Wanted.Wanted, teller.Teller.Teller}
use Rattle.kc_explain.proofs.LineLemmas.{IsEntry, at-none, at-there, entry-there, over-entries, said-at}
use Rattle.kc_explain.proofs.PartLemmas.{own-none}

-- ---- Lists
turned : (b : Bool) (text : List ℕ) → cond (not b) text [] ≡ cond b [] text
turned true text = refl
turned false text = refl

kept : {X : Type 0} (skip : X → Bool) (words : X → List ℕ) (line : List ℕ → List ℕ) (xs : List X) →
    flat_map line (map words (filter (λ x. not (skip x)) xs)) ≡ flat_map (λ x. cond (skip x) [] (line (words x))) xs
kept skip words line xs =
    flat-map line words (filter (λ x. not (skip x)) xs)
    ∙ flat-filter (λ x. not (skip x)) (λ x. line (words x)) xs
    ∙ flat-each (λ x. cond (not (skip x)) (line (words x)) []) (λ x. cond (skip x) [] (line (words x))) (λ x. turned (skip x) (line (words x))) xs

-- the texts of lines that `read` accepts
module _ {X : Type 0} (read : Numbered → Option X) (text : Located Numbered → X → List ℕ) where
  one-read : (o : Located Numbered) (r : Option X) → flat_map (λ (y : List ℕ). y) (listed (option_map (text o) r)) ≡ flat_map (text o) (listed r)
  one-read o None = refl
  one-read o (Some x) = refl

  all-read : (own : List (Located Numbered)) →
      flat_map (λ (y : List ℕ). y) (filter_map (λ (o : Located Numbered). option_map (text o) (read o.statement)) own) ≡ flat_map (λ (o : Located Numbered). flat_map (text o) (listed (read o.statement))) own
  all-read own =
      ap (flat_map (λ (y : List ℕ). y)) (flat-filter_map (λ (o : Located Numbered). option_map (text o) (read o.statement)) own)
      ∙ flat-flat (λ (y : List ℕ). y) (λ (o : Located Numbered). listed (option_map (text o) (read o.statement))) own
      ∙ flat-each (λ (o : Located Numbered). flat_map (λ (y : List ℕ). y) (listed (option_map (text o) (read o.statement))))
      (λ (o : Located Numbered). flat_map (text o) (listed (read o.statement)))
      (λ o. one-read o (read o.statement)) own

-- ---- The ranges of a symbol
module _ (is_raw : Bool) (tree : TreeFacts) (w : Wanted) (l : Layout) where
  abbrev range_at : List (Located Numbered) → rules.Said (Bounds × Option Form) → List ℕ
  range_at lines r = told is_raw tree w (said_in lines r)

  abbrev range_of : Located Numbered → Bounds × Option Form → List ℕ
  range_of o x = told is_raw tree w (record { line = Some o; what = x })

  abbrev ranges_at : ℕ → List ℕ
  ranges_at i = flat_map (range_at (lines_of l)) (rules.said_at (statements_in l) range_in i)

  -- those of an entry
  there : (at : ℕ) (x : Entry) (is : IsEntry l at x) → flat_map (line_told is_raw tree w) (own_of l at) ≡ flat_map ranges_at (listed (index_at l at))
  there at x is =
      sym (all-read range_in range_of (own_of l at))
      ∙ ap (flat_map (λ (y : List ℕ). y)) (sym (said-at range_in l at x is (range_at (lines_of l)) range_of
      (λ k o y h. ap (λ (line : Option (Located Numbered)). told is_raw tree w (record { line = line; what = y })) h)))
      ∙ flat-map (λ (y : List ℕ). y) (range_at (lines_of l)) (rules.said_at (statements_in l) range_in (index_of l.entries is.number))
      ∙ sym (at-there l ranges_at at x is)

  by : (at : ℕ) (o : Option Entry) → entry_at l at ≡ o → flat_map (line_told is_raw tree w) (own_of l at) ≡ flat_map ranges_at (listed (index_at l at))
  by at None h = ap (flat_map (line_told is_raw tree w)) (sym (own-none l at (sym h))) ∙ sym (at-none l ranges_at at h)
  by at (Some x) h = there at x (entry-there l at x h)

  entry-ranges : (e : EntryId) → entry_told is_raw tree w l e ≡ at_entry l ranges_at e
  entry-ranges e = by e.0 (entry_at l e.0) refl

  -- those of all its definitions
  all-ranges : (entries : List EntryId) (s : SymId) → AreAt l entries (definitions_of (statements_in l) s) →
      flat_map (entry_told is_raw tree w l) entries ≡ flat_map (range_at (lines_of l)) (rules.said_of (statements_in l) range_in s)
  all-ranges entries s a =
      flat-each (entry_told is_raw tree w l) (at_entry l ranges_at) entry-ranges entries
      ∙ over-entries l ranges_at entries (definitions_of (statements_in l) s) a
      ∙ sym (flat-flat (range_at (lines_of l)) (rules.said_at (statements_in l) range_in) (definitions_of (statements_in l) s))

module _ (t : Teller) (s : SymId) where
  abbrev tree_of : TreeFacts
  tree_of = t.solved.now.tree

  abbrev lines : List ℕ → List ℕ → SymbolType → List ℕ
  lines lead number kind = rules.text_of_lines lead (map (range_words t.is_raw tree_of)
      (filter (λ (r : rules.Said (Bounds × Option Form)). not (allows tree_of kind number (r.what).0)) (rules.said_of (statements tree_of.lines) range_in s)))

  pub ranges-are : (w : Wanted) (entries : List EntryId) → w.symbol_type ≡ type_in (facts tree_of s) → holds_number w.symbol_type ≡ true →
      AreAt t.layout.now entries (definitions_of (statements_in t.layout.now) s) →
      flat_map (entry_told t.is_raw tree_of w t.layout.now) entries ≡ range_lines t.is_raw tree_of w.lead.now s w.number.now
  ranges-are w entries is holds a =
      all-ranges t.is_raw tree_of w t.layout.now entries s a
      ∙ ap (λ (ls : List (Located Numbered)). flat_map (range_at t.is_raw tree_of w t.layout.now ls) (rules.said_of (statements ls) range_in s)) (sym t.laid.lines)
      ∙ sym (kept (λ (r : rules.Said (Bounds × Option Form)). allows tree_of w.symbol_type w.number.now (r.what).0) (range_words t.is_raw tree_of) (λ line. w.lead.now ++ line ++ codes "\n")
      (rules.said_of (statements tree_of.lines) range_in s))
      ∙ ap (λ (b : Bool). if b then lines w.lead.now w.number.now w.symbol_type else []) (sym holds)
      ∙ ap (λ (k : SymbolType). if holds_number k then lines w.lead.now w.number.now k else []) is

  -- a symbol of another type has none
  pub no-ranges : (kind : SymbolType) (lead number text : List ℕ) → kind ≡ type_in (facts tree_of s) → holds_number kind ≡ false → text ≡ text ++ range_lines t.is_raw tree_of lead s number
  no-ranges kind lead number text is holds =
      sym (append-nil text)
      ∙ ap (λ (b : Bool). text ++ (if b then lines lead number kind else [])) (sym holds)
      ∙ ap (λ (k : SymbolType). text ++ (if holds_number k then lines lead number k else [])) is
