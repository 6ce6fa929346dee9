-- For proofs: Any two proofs that a layout is that of a tree are equal.
use Rattle.std.specs.Coded.{Coded-set, coded_list, coded_option, coded_ℕ}
use Rattle.kc_language.specs.contracts.expressions.SymId as sym_id
use Rattle.kc_tree.specs.{Layouts.IsLayoutOf, LineCode.line_code, TreeCode.{choice_code, shown_code, symbol_code}, declared.layout.Layout.Layout}
use Rattle.kc_language.specs.Symbols.{TreeFacts}

pub layout-prop : (t : TreeFacts) (l : Layout) → IsProp (IsLayoutOf t l)
layout-prop t l a b = λ i. record {
  symbol_count = Coded-set coded_ℕ _ _ a.symbol_count b.symbol_count i;
  symbols = λ k. Coded-set (coded_option symbol_code) _ _ (a.symbols k) (b.symbols k) i;
  defined = Coded-set (coded_list sym_id.the_row.coded) _ _ a.defined b.defined i;
  choice_count = Coded-set coded_ℕ _ _ a.choice_count b.choice_count i;
  choices = λ k. Coded-set (coded_option choice_code) _ _ (a.choices k) (b.choices k) i;
  entries = Coded-set (coded_list shown_code) _ _ a.entries b.entries i;
  modules = Coded-set (coded_option sym_id.the_row.coded) _ _ a.modules b.modules i;
  lines = Coded-set (coded_list line_code) _ _ a.lines b.lines i;
}
