-- How a row of the graph of needs grows: what is added to it, one after another.
use Rattle.std.proofs.{Common.{Bool, List, ap, append-nil, append_assoc, false, length, subst, sym, take, true, ℕ, ◌++◌, ◌∙◌, ◌≡◌, ◌≤◌}, lemmas.List.take_all}
use Rattle.std.specs.List.{flat_map, list_any}
use Rattle.kc_language.specs.{Statements.Numbered, declared.expressions.SymId.SymId}
use Rattle.kc_entries.specs.{StatementViews.attribute_view, declared.entries.AttributeLine.AttributeLine}
use Rattle.kc_tree.specs.EntryViews.{statements_of}
use Rattle.kc_tree.proofs.ListLemmas.{flat-map}
use Rattle.kc_values.specs.{MadeRows.Adds, NeedRows.{Needed, both, named, nothing, where_true}, declared.needs.NeedRow.NeedRow}
use Rattle.kc_values.proofs.AnyLemmas.{any_map}

-- nothing was added
pub adds_nothing : (a : NeedRow) → Adds a a nothing
adds_nothing a = record { nodes_are = sym (append-nil a.nodes.items); names_are = sym (append-nil a.names.items) }

-- one addition after another
joined : {X : Type 0} (a b c x y : List X) → b ≡ a ++ x → c ≡ b ++ y → c ≡ a ++ (x ++ y)
joined a b c x y e f = f ∙ ap (λ r. r ++ y) e ∙ append_assoc a x y

pub adds_both : (a b c : NeedRow) (n m : Needed) → Adds a b n → Adds b c m → Adds a c (both n m)
adds_both a b c n m x y = record {
  nodes_are = joined a.nodes.items b.nodes.items c.nodes.items n.nodes m.nodes x.nodes_are y.nodes_are;
  names_are = joined a.names.items b.names.items c.names.items n.names m.names x.names_are y.names_are;
}

-- On a walk: what was there at first and all that the walk adds is what is there now and what is left.
pub record IsLeft (start : NeedRow) (all : Needed) (now : NeedRow) (rest : Needed) : Type 0 where
  pub nodes_are : now.nodes.items ++ rest.nodes ≡ start.nodes.items ++ all.nodes
  pub names_are : now.names.items ++ rest.names ≡ start.names.items ++ all.names

handed : {X : Type 0} (a b x r : List X) (t : List X) → b ≡ a ++ x → a ++ (x ++ r) ≡ t → b ++ r ≡ t
handed a b x r t e f = ap (λ k. k ++ r) e ∙ append_assoc a x r ∙ f

pub left_less : (start : NeedRow) (all : Needed) (a b : NeedRow) (n rest : Needed) → IsLeft start all a (both n rest) → Adds a b n → IsLeft start all b rest
left_less start all a b n rest h x = record {
  nodes_are = handed a.nodes.items b.nodes.items n.nodes rest.nodes (start.nodes.items ++ all.nodes) x.nodes_are h.nodes_are;
  names_are = handed a.names.items b.names.items n.names rest.names (start.names.items ++ all.names) x.names_are h.names_are;
}

pub left_none : (start : NeedRow) (all : Needed) (a : NeedRow) → IsLeft start all a nothing → Adds start a all
left_none start all a h = record { nodes_are = sym (append-nil a.nodes.items) ∙ h.nodes_are; names_are = sym (append-nil a.names.items) ∙ h.names_are }

-- After all lines of an entry, of each of which the names were added.
pub lines_added : (g : Numbered → List SymId) (a b : NeedRow) (ls : List AttributeLine) (i : ℕ) → length ls ≤ i → b.nodes.items ≡ a.nodes.items →
    b.names.items ≡ a.names.items ++ flat_map (λ (x : AttributeLine). g (attribute_view x.attribute)) (take i ls) → Adds a b (named (flat_map g (statements_of ls)))
lines_added g a b ls i h e f = record {
  nodes_are = e ∙ sym (append-nil a.nodes.items);
  names_are =
      f ∙ ap (λ xs. a.names.items ++ flat_map (λ (x : AttributeLine). g (attribute_view x.attribute)) xs) (take_all i ls h)
      ∙ ap (λ r. a.names.items ++ r) (sym (flat-map g (λ (x : AttributeLine). attribute_view x.attribute) ls));
}

-- whether one of them says something
pub lines_say : (p : Numbered → Bool) (ls : List AttributeLine) (i : ℕ) (read : Bool) → length ls ≤ i → read ≡ list_any (λ (x : AttributeLine). p (attribute_view x.attribute)) (take i ls) →
    read ≡ list_any p (statements_of ls)
lines_say p ls i read h e =
    e ∙ ap (list_any (λ (x : AttributeLine). p (attribute_view x.attribute))) (take_all i ls h) ∙ sym (any_map p (λ (x : AttributeLine). attribute_view x.attribute) ls)

-- one addition, and another one under a condition
pub adds_where : (a b c : NeedRow) (n m : Needed) (t : Bool) → Adds a b n → t ≡ true → Adds b c m → Adds a c (both n (where_true t m))
adds_where a b c n m t x e y = adds_both a b c n (where_true t m) x (subst (λ t. Adds b c (where_true t m)) (sym e) y)

pub adds_where_not : (a b : NeedRow) (n m : Needed) (t : Bool) → Adds a b n → t ≡ false → Adds a b (both n (where_true t m))
adds_where_not a b n m t x e = adds_both a b b n (where_true t m) x (subst (λ t. Adds b b (where_true t m)) (sym e) (adds_nothing b))
