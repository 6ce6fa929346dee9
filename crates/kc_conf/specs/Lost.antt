-- For proofs: Lost values, and what is told of them.
use Rattle.std.specs.Prelude.{[], Bool, List, Option, codes, flat_map, if◌then◌else◌, length, map, ℕ, ◌++◌}
use Rattle.kc_language.specs.ConfigFile.{StreamLocation, UserInput}
use Rattle.kc_language.specs.Texts.{Solution, lost_at}
use Rattle.kc_language.specs.declared.expressions.SymId.{SymId}
use Rattle.kc_outcome.specs.Explanations.{causes_lines, symbol_lines, text_of_lines}
use Rattle.kc_language.specs.Values.{name}
use Rattle.kc_outcome.specs.Outcome.{Options, question_text}
use Rattle.kc_explain.specs.declared.teller.Teller.{Teller}
use Rattle.kc_conf.specs.declared.lost.LostValue.{LostValue}

-- a lost value: its symbol and its line; the one of a symbol, if it was lost; those of all symbols, if they are wanted
abbrev pub lost_view : LostValue → SymId × List ℕ
lost_view v = (v.symbol, v.line.items)

abbrev pub lost_pairs : Bool → List (Option StreamLocation) → Solution → SymId → List (SymId × List ℕ)
lost_pairs is_raw lines solution s = map (λ line. (s, line)) (lost_at is_raw lines solution s)

abbrev pub lost_values : Options → UserInput → Solution → List (SymId × List ℕ)
lost_values options input solution =
    if options.warn_lost then flat_map (lost_pairs options.prefix.is_raw input.lines solution) solution.tree.defined else []

-- their lines; a line with the explanation of its symbol; those of all, the causes, and the question for the first
abbrev pub lines_of : List (SymId × List ℕ) → List ℕ
lines_of lost = flat_map (λ v. v.1 ++ codes "\n") lost

module _ (t : Teller) (front : List ℕ) where
  abbrev pub with_explanation : SymId × List ℕ → List ℕ
  with_explanation v = v.1 ++ codes "\n" ++ text_of_lines front (symbol_lines t.input.now t.solved.now t.is_raw v.0)

  abbrev pub told_lost : List (SymId × List ℕ) → List ℕ
  told_lost lost = flat_map with_explanation lost
      ++ text_of_lines front (causes_lines t.input.now t.solved.now t.is_raw (map (λ v. v.0) lost) (length lost))
      ++ question_text front (map (name t.solved.now.tree) (map (λ v. v.0) lost))
