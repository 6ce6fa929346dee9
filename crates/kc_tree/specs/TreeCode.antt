-- For proofs: How the logic encodes the facts of a tree, so that a model may have them as its value.
use Rattle.std.specs.{Coded.{Coded, code_by, coded_list, coded_option, coded_ℕ, coded×, coded⊎}, Prelude.{List, Option, refl, ℕ, ◌≡◌, ◌⊎◌}}
use Rattle.std.proofs.Common.{inl, inr}
use Rattle.kc_language.specs.{Expressions.{Form, Leaf}, Statements.{Located, Numbered}, Symbols.{Bounds, ChoiceFacts, CommentShown, Condition, EndShown, Guarded, MenuShown, Shown, SymbolFacts, SymbolShown, TreeFacts}, declared.expressions.{SymId.SymId, SymbolType.SymbolType}}
use Rattle.kc_language.specs.contracts.expressions.SymId as sym_id
use Rattle.kc_language.specs.contracts.expressions.SymbolType as symbol_type
use Rattle.kc_expr.specs.FormCode.{bytes_code, form_code, leaf_code}
use Rattle.kc_tree.specs.LineCode.{line_code}

abbrev sym_code : Coded SymId
sym_code = sym_id.the_row.coded

abbrev type_code : Coded SymbolType
type_code = symbol_type.the_row.coded

abbrev pub condition_code : Coded Condition
condition_code =
    code_by (List Form × Option ℕ) (coded× (coded_list form_code) (coded_option coded_ℕ)) (λ c. (c.conjuncts, c.mode)) (λ p. record { conjuncts = p.0; mode = p.1 }) (λ _. refl)

module _ {X : Type 0} (code : Coded X) where
  abbrev pub guarded_code : Coded (Guarded X)
  guarded_code = code_by (X × Condition) (coded× code condition_code) (λ g. (g.what, g.when)) (λ p. record { what = p.0; when = p.1 }) (λ _. refl)

abbrev pub bounds_code : Coded Bounds
bounds_code = code_by (Leaf × Leaf) (coded× leaf_code leaf_code) (λ b. (b.low, b.high)) (λ p. record { low = p.0; high = p.1 }) (λ _. refl)

abbrev pub conditions_code : Coded (List Condition)
conditions_code = coded_list condition_code

abbrev named_code : Coded (List (Guarded SymId))
named_code = coded_list (guarded_code sym_code)

-- the lines of a symbol, as nested pairs
abbrev Lists : Type 0
Lists = (List Condition × List Condition) × ((List (Guarded Form) × List (Guarded Bounds)) × (List (Guarded SymId) × List (Guarded SymId)))

abbrev lists_code : Coded Lists
lists_code =
    coded× (coded× conditions_code conditions_code) (coded× (coded× (coded_list (guarded_code form_code)) (coded_list (guarded_code bounds_code))) (coded× named_code named_code))

abbrev pub symbol_code : Coded SymbolFacts
symbol_code =
    code_by ((SymbolType × Option ℕ) × Lists) (coded× (coded× type_code (coded_option coded_ℕ)) lists_code)
    (λ f. ((f.symbol_type, f.choice), ((f.dependencies, f.prompts), ((f.defaults, f.ranges), (f.selectors, f.impliers)))))
    (λ p. record {
      symbol_type = p.0.0;
      choice = p.0.1;
      dependencies = p.1.0.0;
      prompts = p.1.0.1;
      defaults = p.1.1.0.0;
      ranges = p.1.1.0.1;
      selectors = p.1.1.1.0;
      impliers = p.1.1.1.1;
    })
    (λ _. refl)

abbrev pub choice_code : Coded ChoiceFacts
choice_code =
    code_by (Option Condition × (List (Guarded SymId) × List SymId)) (coded× (coded_option condition_code) (coded× named_code (coded_list sym_code)))
    (λ c. (c.prompt, (c.defaults, c.members)))
    (λ p. record { prompt = p.0; defaults = p.1.0; members = p.1.1 })
    (λ _. refl)

-- a symbol or a menu's end; a menu or a comment
abbrev Cases : Type 0
Cases = (SymId ⊎ ℕ) ⊎ ((List ℕ × Condition) ⊎ (List ℕ × Condition))

abbrev cases : Shown → Cases
cases (SymbolShown s) = inl (inl s)
cases (EndShown k) = inl (inr k)
cases (MenuShown t c) = inr (inl (t, c))
cases (CommentShown t c) = inr (inr (t, c))

abbrev shown : Cases → Shown
shown (inl (inl s)) = SymbolShown s
shown (inl (inr k)) = EndShown k
shown (inr (inl p)) = MenuShown p.0 p.1
shown (inr (inr p)) = CommentShown p.0 p.1

pub shown-cases : (e : Shown) → shown (cases e) ≡ e
shown-cases (SymbolShown s) = refl
shown-cases (EndShown k) = refl
shown-cases (MenuShown t c) = refl
shown-cases (CommentShown t c) = refl

abbrev pub shown_code : Coded Shown
shown_code =
    code_by Cases (coded⊎ (coded⊎ sym_code coded_ℕ) (coded⊎ (coded× bytes_code condition_code) (coded× bytes_code condition_code))) cases shown shown-cases

-- the facts of a tree, as nested pairs
abbrev Facts : Type 0
Facts = (List (List ℕ) × ((List SymbolFacts × List SymId) × List ChoiceFacts))
    × ((List Shown × List (List ℕ)) × ((List ℕ × Option SymId) × List (Located Numbered)))

abbrev whole_code : Coded Facts
whole_code =
    coded× (coded× (coded_list bytes_code) (coded× (coded× (coded_list symbol_code) (coded_list sym_code)) (coded_list choice_code)))
    (coded× (coded× (coded_list shown_code) (coded_list bytes_code)) (coded× (coded× bytes_code (coded_option sym_code)) (coded_list line_code)))

abbrev pub tree_code : Coded TreeFacts
tree_code =
    code_by Facts whole_code
    (λ t. ((t.names, ((t.symbols, t.defined), t.choices)), ((t.entries, t.warnings), ((t.main_menu, t.modules), t.lines))))
    (λ p. record {
      names = p.0.0;
      symbols = p.0.1.0.0;
      defined = p.0.1.0.1;
      choices = p.0.1.1;
      entries = p.1.0.0;
      warnings = p.1.0.1;
      main_menu = p.1.1.0.0;
      modules = p.1.1.0.1;
      lines = p.1.1.1;
    })
    (λ _. refl)
