-- What attributes say from one on.
use Rattle.std.proofs.Common.{List, None, Option, Some, [], ap, drop, get_or, length, refl, sym, ℕ, ◌+◌, ◌<◌, ◌∙◌, ◌∷◌, ◌≡◌, ◌≤◌}
use Rattle.std.specs.List.{cons_option, filter_map}
use Rattle.kc_language.specs.Statements.{Numbered}
use Rattle.kc_entries.specs.{StatementViews.attribute_view, declared.entries.AttributeLine.AttributeLine}
use Rattle.kc_tree.specs.EntryViews.{statements_of}
use Rattle.kc_tree.proofs.AttributeLemmas.{statements_end, statements_from}

module _ {X : Type 0} (read : Numbered → Option X) (ls : List AttributeLine) where
  abbrev pub said_from : ℕ → List X
  said_from i = filter_map read (drop i (statements_of ls))

  -- one more line, which says something or nothing
  pub said-next : (i : ℕ) (x : AttributeLine) (o : Option X) → i < length ls → x ≡ get_or ls i x → read (attribute_view x.attribute) ≡ o → said_from i ≡ cons_option o (said_from (i + 1))
  said-next i x o h at e = ap (filter_map read) (statements_from ls i x h at) ∙ ap (λ r. cons_option r (said_from (i + 1))) e

  pub said-end : (i : ℕ) → length ls ≤ i → said_from i ≡ []
  said-end i h = ap (filter_map read) (statements_end ls i h)
