-- For proofs: The lines about a symbol.
use Rattle.std.proofs.Common.{◌≡◌, ◌≢◌, ◌<◌, ℕ, zero, suc, Bool, List, [], ◌∷◌, ◌++◌, length, map, Option, Some, None, refl, sym, ap, ◌∙◌, append-nil, append_assoc, arith}
use Rattle.std.proofs.lemmas.Option.{slice_get-map}
use Rattle.std.proofs.lemmas.Grind.{flat_map-append}
use Rattle.std.specs.Prelude.{codes, if◌then◌else◌, slice_get, option_map}
use Rattle.std.specs.List.{filter_map, flat_map}
use Rattle.kc_language.specs.Expansion.{enclosing}
use Rattle.kc_language.specs.Statements.{DependsLine, Located, Numbered, VisibleLine, statements}
use Rattle.kc_language.specs.Symbols.{SymbolFacts, TreeFacts, definitions_of, listed, same_type}
use Rattle.kc_language.specs.Values.{facts, name, type_in}
use Rattle.kc_language.specs.declared.expressions.SymId.{SymId}
use Rattle.kc_language.specs.declared.expressions.SymbolType.{SymbolType}
use Rattle.kc_language.specs.declared.expressions.SymbolType.TheVariants as symbol_type
use Rattle.kc_outcome.specs.Explanations as rules
use Rattle.kc_outcome.specs.Explanations.{menu_path, text_of_lines}
use Rattle.kc_tree.specs.Layouts.{entry_at, index_at, statements_in}
use Rattle.kc_tree.specs.declared.layout.Layout.{Layout}
use Rattle.kc_tree.specs.declared.rows.EntryId.{EntryId}
use Rattle.kc_tree.proofs.ListLemmas.{flat-each, flat-filter_map, flat-flat, flat-map}
use Rattle.kc_entries.specs.StatementViews.{head_view}
use Rattle.kc_entries.specs.declared.{entries.Entry.{Entry}, statement.Head.{Head}}
use Rattle.kc_explain.proofs.LineLemmas.{at-none, at-there, entry-there, over-entries}
use Rattle.kc_explain.proofs.PartLemmas.{head-there}
use Rattle.kc_explain.specs.FactTexts.{asked_text, fact_line, fact_text, facts_text, form_text, input_place, location_text, word_in, word_of, words}
use Rattle.kc_explain.specs.FactViews.{fact_in}
use Rattle.kc_explain.specs.LineViews.{AreAt, at_entry}
use Rattle.kc_explain.specs.SymbolTexts.{head_of, menus_text, path_of, symbol_text, title_of, titles_around, titles_at, typed_head, untyped_text}
use Rattle.kc_explain.specs.declared.teller.Teller.{Teller}

-- ---- a symbol with a type is one of the tree
pub typed_within : (xs : List SymbolFacts) (i : ℕ) → type_in (slice_get xs i) ≢ symbol_type.Undefined → i < length xs
typed_within [] i typed = absurd (typed refl)
typed_within (x ∷ xs) zero typed = omega arith
typed_within (x ∷ xs) (suc i) typed = let h : i < length xs = typed_within xs i typed in omega arith

-- ---- the words of a fact, by its lines and by their numbers
word-at : (o : Option (Located Numbered)) → word_in o
    ≡ elim (option_map (λ (m : Located Numbered). m.statement) o) [ Some (DependsLine e) ↦ codes "depends on " | Some (VisibleLine e) ↦ codes "visible if " | _ ↦ codes "if " ]
word-at None = refl
word-at (Some l) = by l.statement
  where
    by : (s : Numbered) → word_of s ≡ elim (Some s) [ Some (DependsLine e) ↦ codes "depends on " | Some (VisibleLine e) ↦ codes "visible if " | _ ↦ codes "if " ]
    by (DependsLine e) = refl
    by (VisibleLine e) = refl
    by _ = refl

module _ (is_raw : Bool) (tree : TreeFacts) where
  pub asked-as : (i : ℕ) (asks : rules.Asked) → asked_text is_raw tree (slice_get tree.lines i) asks ≡ rules.part_text is_raw tree (record { at = i; asks = asks })
  asked-as i (rules.Worth e) =
      ap (λ w. w ++ form_text is_raw tree e) (word-at (slice_get tree.lines i)
      ∙ ap (λ (o : Option Numbered). elim o [ Some (DependsLine d) ↦ codes "depends on " | Some (VisibleLine d) ↦ codes "visible if " | _ ↦ codes "if " ])
      (sym (slice_get-map (λ (m : Located Numbered). m.statement) tree.lines i)))
  asked-as i (rules.ModeOf k) = refl

  -- the words of the fact are those of the chapter Explanations
  pub words_in : (f : rules.Fact) → words is_raw tree (fact_in tree.lines f) ≡ rules.words_of is_raw tree f
  words_in (rules.UserGave at place given) = refl
  words_in (rules.NotAllowed s line) = refl
  words_in (rules.PartIs p t) = ap (λ r. codes "  " ++ location_text (slice_get tree.lines p.at) ++ r ++ rules.ending t) (asked-as p.at p.asks)
  words_in (rules.DependencyIs i t) = refl
  words_in (rules.PromptIs p t) = refl
  words_in (rules.DefaultIs kind d t given) = refl
  words_in (rules.RangeIs kind r t bounds) = refl
  words_in (rules.RaisedBy word r t u) = refl
  words_in (rules.NotRaised word rs) = refl
  words_in (rules.ModulesAre m t) = refl
  words_in (rules.ModeIs j k t) = refl
  words_in (rules.MemberIs m t) = refl
  words_in (rules.MemberDefaultIs d t u) = refl

  place_in : (f : rules.Fact) → input_place (fact_in tree.lines f) ≡ rules.location_of f
  place_in (rules.UserGave at place given) = refl
  place_in (rules.NotAllowed s line) = refl
  place_in _ = refl

  line_in : (lead : List ℕ) (f : rules.Fact) → fact_text is_raw tree lead (fact_in tree.lines f) ≡ lead ++ rules.fact_line is_raw tree f ++ codes "\n"
  line_in lead f = λ i. lead ++ (codes "  " ++ rules.input_location (place_in f i) ++ words_in f i) ++ codes "\n"

  -- the lines of facts
  pub lines-told : (lead : List ℕ) (fs : List rules.Fact) →
      facts_text is_raw tree lead (map (fact_in tree.lines) fs) ≡ text_of_lines lead (map (rules.fact_line is_raw tree) fs)
  lines-told lead fs =
      flat-map (fact_text is_raw tree lead) (fact_in tree.lines) fs
      ∙ flat-each (λ f. fact_text is_raw tree lead (fact_in tree.lines f)) (λ f. lead ++ rules.fact_line is_raw tree f ++ codes "\n") (line_in lead) fs
      ∙ sym (flat-map (λ l. lead ++ l ++ codes "\n") (rules.fact_line is_raw tree) fs)

-- ---- menus
titles-is : (ss : List Numbered) (i : ℕ) → path_of (titles_around ss i) ≡ menu_path ss i
titles-is ss i = ap path_of (sym (flat-filter_map (λ j. title_of (slice_get ss j)) (enclosing ss i))) ∙ path-is (filter_map (λ j. title_of (slice_get ss j)) (enclosing ss i))
  where
    path-is : (titles : List (List ℕ)) → path_of titles ≡ elim titles [ [] ↦ [] | t ∷ ts ↦ (codes "in " ++ t ++ flat_map (λ u. codes " > " ++ u) ts) ∷ [] ]
    path-is [] = refl
    path-is (t ∷ ts) = refl

menus-at : (ss : List Numbered) (lead : List ℕ) (o : Option ℕ) →
    text_of_lines lead (path_of (flat_map (titles_around ss) (listed o))) ≡ text_of_lines lead (flat_map (menu_path ss) (listed o))
menus-at ss lead None = refl
menus-at ss lead (Some i) =
    ap (λ ts. text_of_lines lead (path_of ts)) (append-nil (titles_around ss i)) ∙ ap (text_of_lines lead) (titles-is ss i)
    ∙ ap (text_of_lines lead) (sym (append-nil (menu_path ss i)))

pub menus-told : (l : Layout) (lead : List ℕ) (e : EntryId) →
    text_of_lines lead (path_of (at_entry l (titles_around (statements_in l)) e)) ≡ text_of_lines lead (at_entry l (menu_path (statements_in l)) e)
menus-told l lead e = menus-at (statements_in l) lead (index_at l e.0)

pub titles-found : (l : Layout) (e : EntryId) (around : List EntryId) → AreAt l around (flat_map (enclosing (statements_in l)) (listed (index_at l e.0))) →
    flat_map (at_entry l (titles_at (statements_in l))) around ≡ at_entry l (titles_around (statements_in l)) e
titles-found l e around a =
    over-entries l (titles_at (statements_in l)) around (flat_map (enclosing (statements_in l)) (listed (index_at l e.0))) a
    ∙ flat-flat (titles_at (statements_in l)) (enclosing (statements_in l)) (listed (index_at l e.0))

-- the title of an entry that begins a menu, and none of any other
pub title-there : (l : Layout) (at : ℕ) (o : Option Head) → o ≡ option_map (λ (x : Entry). x.head) (entry_at l at) →
    listed (title_of (option_map head_view o)) ≡ flat_map (titles_at (statements_in l)) (listed (index_at l at))
title-there l at o h = by (entry_at l at) refl
  where
    by : (x : Option Entry) → entry_at l at ≡ x → listed (title_of (option_map head_view o)) ≡ flat_map (titles_at (statements_in l)) (listed (index_at l at))
    by None e =
        ap (λ (p : Option Head). listed (title_of (option_map head_view p))) (h ∙ ap (option_map (λ (x : Entry). x.head)) e)
        ∙ sym (at-none l (titles_at (statements_in l)) at e)
    by (Some x) e =
        let is = entry-there l at x e in
        ap (λ (p : Option Head). listed (title_of (option_map head_view p))) (h ∙ ap (option_map (λ (x : Entry). x.head)) e)
        ∙ ap (λ (s : Option Numbered). listed (title_of s)) (sym (head-there l at x is))
        ∙ sym (at-there l (titles_at (statements_in l)) at x is)

-- lines after two leads
led-twice : (lead more : List ℕ) (ls : List (List ℕ)) → text_of_lines (lead ++ more) ls ≡ text_of_lines lead (map (λ l. more ++ l) ls)
led-twice lead more ls =
    flat-each (λ l. (lead ++ more) ++ l ++ codes "\n") (λ l. lead ++ (more ++ l) ++ codes "\n")
    (λ l. ap (λ r. r ++ codes "\n") (append_assoc lead more l)) ls
    ∙ sym (flat-map (λ l. lead ++ l ++ codes "\n") (λ l. more ++ l) ls)

-- ---- the whole
module _ (t : Teller) where
  abbrev tree : TreeFacts
  tree = t.solved.now.tree

  head-as : (entries : List EntryId) (s : SymId) (kind : SymbolType) →
      head_of t entries s kind ≡ (if same_type kind symbol_type.Undefined then name tree s ++ untyped_text entries else typed_head t s kind)
  head-as entries s symbol_type.Undefined = refl
  head-as entries s _ = refl

  untyped-as : (entries : List EntryId) (is : List ℕ) → AreAt t.layout.now entries is → untyped_text entries ≡ rules.untyped_text is
  untyped-as [] [] a = refl
  untyped-as (e ∷ entries) (i ∷ is) a = refl
  untyped-as [] (i ∷ is) a = absurd cc
  untyped-as (e ∷ entries) [] a = absurd cc

  first-menus : (lead : List ℕ) (entries : List EntryId) (is : List ℕ) → AreAt t.layout.now entries is → menus_text t lead entries
      ≡ text_of_lines lead (flat_map (λ i. map (λ path. codes "  " ++ path) (menu_path (statements_in t.layout.now) i)) (listed (slice_get is 0)))
  first-menus lead [] [] a = refl
  first-menus lead (e ∷ entries) (i ∷ is) a =
      let at : index_at t.layout.now e.0 ≡ Some i = cc in
      ap (λ o. text_of_lines (lead ++ codes "  ") (flat_map (menu_path (statements_in t.layout.now)) (listed o))) at
      ∙ ap (text_of_lines (lead ++ codes "  ")) (append-nil (menu_path (statements_in t.layout.now) i))
      ∙ led-twice lead (codes "  ") (menu_path (statements_in t.layout.now) i)
      ∙ ap (text_of_lines lead) (sym (append-nil (map (λ path. codes "  " ++ path) (menu_path (statements_in t.layout.now) i))))
  first-menus lead [] (i ∷ is) a = absurd cc
  first-menus lead (e ∷ entries) [] a = absurd cc

  -- the parts of the text of a symbol are its lines
  pub symbol-told : (lead : List ℕ) (entries : List EntryId) (s : SymId) (fs : List _) → AreAt t.layout.now entries (definitions_of (statements_in t.layout.now) s) →
      fs ≡ map (fact_in tree.lines) (rules.facts_in t.input.now t.solved.now s) →
      symbol_text t lead entries s fs ≡ text_of_lines lead (rules.symbol_lines t.input.now t.solved.now t.is_raw s)
  symbol-told lead entries s fs a f =
      let kind = type_in (facts tree s) in
      let ss : statements_in t.layout.now ≡ statements tree.lines = ap statements (sym t.laid.lines) in
      let head : head_of t entries s kind ≡ rules.head_text t.input.now t.solved.now t.is_raw s =
      head-as entries s kind
      ∙ ap (λ u. if same_type kind symbol_type.Undefined then name tree s ++ u else typed_head t s kind) (untyped-as entries (definitions_of (statements_in t.layout.now) s) a
      ∙ ap (λ r. rules.untyped_text (definitions_of r s)) ss) in
      let menus : menus_text t lead entries ≡ text_of_lines lead (rules.menu_text t.input.now t.solved.now t.is_raw s) =
      first-menus lead entries (definitions_of (statements_in t.layout.now) s) a
      ∙ ap (λ r. text_of_lines lead (flat_map (λ i. map (λ path. codes "  " ++ path) (menu_path r i)) (listed (slice_get (definitions_of r s) 0)))) ss in
      let told : facts_text t.is_raw tree lead fs ≡ text_of_lines lead (map (rules.fact_line t.is_raw tree) (rules.facts_in t.input.now t.solved.now s)) =
      ap (facts_text t.is_raw tree lead) f ∙ lines-told t.is_raw tree lead (rules.facts_in t.input.now t.solved.now s) in
      let led : List (List ℕ) → List ℕ = text_of_lines lead in
      let first : List ℕ = rules.head_text t.input.now t.solved.now t.is_raw s in
      let around : List (List ℕ) = rules.menu_text t.input.now t.solved.now t.is_raw s in
      let all : List (List ℕ) = map (rules.fact_line t.is_raw tree) (rules.facts_in t.input.now t.solved.now s) in
      (λ i. text_of_lines lead (head i ∷ []) ++ menus i ++ told i)
      ∙ append_assoc (led (first ∷ [])) (led around) (led all)
      ∙ ap (λ r. led (first ∷ []) ++ r) (sym (flat_map-append (λ l. lead ++ l ++ codes "\n") around all))
      ∙ sym (flat_map-append (λ l. lead ++ l ++ codes "\n") (first ∷ []) (around ++ all))
