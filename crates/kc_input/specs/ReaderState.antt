-- Trusted: The state of a reader of .config text.
use Rattle.std.specs.{Coded.{Coded, code_by, coded_bool, coded_option, coded_ℕ, coded×}, Prelude.{Bool, List, Option, refl, ℕ}}
use Rattle.kc_expr.specs.FormCode.{bytes_code}
use Rattle.kc_language.specs.{ConfigFile.Notation, Symbols.TreeFacts}
use Rattle.kc_tree.specs.TreeCode.{tree_code}
use Rattle.kc_input.specs.{Feeding.StreamPosition, declared.fault.InputFault.InputFault}
use Rattle.kc_input.specs.contracts.fault.InputFault as input_fault

-- the tree and prefix that it reads for, the name of its input file, its position, and the stored fault
pub record ReaderState : Type 0 where
  pub tree : TreeFacts
  pub prefix : Notation
  pub name : List ℕ
  pub position : StreamPosition
  pub refusal : Option InputFault

abbrev pub position_code : Coded StreamPosition
position_code = code_by (ℕ × List ℕ) (coded× coded_ℕ bytes_code) (λ s. (s.number, s.pending)) (λ p. record { number = p.0; pending = p.1 }) (λ _. refl)

abbrev pub notation_code : Coded Notation
notation_code = code_by (List ℕ × Bool) (coded× bytes_code coded_bool) (λ n. (n.prefix, n.is_raw)) (λ p. record { prefix = p.0; is_raw = p.1 }) (λ _. refl)

abbrev pub reader_code : Coded ReaderState
reader_code =
    code_by (TreeFacts × ((Notation × List ℕ) × (StreamPosition × Option InputFault)))
    (coded× tree_code (coded× (coded× notation_code bytes_code) (coded× position_code (coded_option input_fault.the_row.coded))))
    (λ r. (r.tree, ((r.prefix, r.name), (r.position, r.refusal))))
    (λ p. record { tree = p.0; prefix = p.1.0.0; name = p.1.0.1; position = p.1.1.0; refusal = p.1.1.1 })
    (λ _. refl)
