use Rattle.std.proofs.{Common.{List, Some, add-one, ap, arith, drop, length, slice_get, suc, sym, take, ℕ, ◌++◌, ◌+◌, ◌-◌, ◌∙◌, ◌∷◌, ◌≡◌}, lemmas.Option.slice_get_within}
use Rattle.kc_entries.specs.{Entries.{first_line, lines_of, own_lines, own_of}, EntryStarts.start_of, declared.entries.Entry.Entry}
use Rattle.kc_entries.proofs.EntryLemmas.{front-is, none-left, starts-before, starts-within}
use Rattle.kc_entries.proofs.entries.Entries.entry.Goals as goal

-- the entry with the number, and where its attributes end
at : (es seen : List Entry) (i : ℕ) (e : Entry) → Some e ≡ slice_get seen i → seen ≡ es → slice_get es i ≡ Some e
at es seen i e is same = ap (λ (l : List Entry). slice_get l i) (sym same) ∙ sym is

end_is : (es seen : List Entry) (i end count n : ℕ) → end ≡ start_of (drop (i + 1) seen) count → seen ≡ es → count ≡ n → end ≡ start_of (drop (suc i) es) n
end_is es seen i end count n is same many = is ∙ (λ j. start_of (drop (add-one i j) (same j)) (many j))

pub between-attributes-requires-clause-order : goal.between-attributes-requires-clause-order
between-attributes-requires-clause-order c =
    let es = c.args.self.now.first_lines.items in
    let n = length c.args.self.now.attributes.items in
    let many : c.len.result ≡ n = omega (arith, c.len.ensures, c.args.self.now.attributes.ok) in
    let end = end_is es _ c.args.i c.start_at-end.result c.len.result n c.start_at-end.ensures c.deref-in-Some.ensures.value many in
    let before = starts-before c.args.i es c.in-Some.first.now n c.args.self.now.in_order (at es _ c.args.i c.in-Some.first.now c.in-Some.ensures c.deref.ensures.value) in
    omega (arith, end, before)

pub between-attributes-requires-clause-within : goal.between-attributes-requires-clause-within
between-attributes-requires-clause-within c =
    let es = c.args.self.now.first_lines.items in
    let n = length c.args.self.now.attributes.items in
    let many : c.len.result ≡ n = omega (arith, c.len.ensures, c.args.self.now.attributes.ok) in
    let end = end_is es _ c.args.i c.start_at-end.result c.len.result n c.start_at-end.ensures c.deref-in-Some.ensures.value many in
    let within = starts-within (suc c.args.i) es n c.args.self.now.in_order in
    omega (arith, end, within, ap length c.deref-in-Some-2.ensures.value)

pub returns-in-Some : goal.returns-in-Some
returns-in-Some c =
    let es = c.args.self.now.first_lines.items in
    let ls = c.args.self.now.attributes.items in
    let i = c.args.i in
    let e = c.in-Some.first.now in
    let here = at es _ i e c.in-Some.ensures c.deref.ensures.value in
    let many : c.len.result ≡ length ls = omega (arith, c.len.ensures, c.args.self.now.attributes.ok) in
    let end = end_is es _ i c.start_at-end.result c.len.result (length ls) c.start_at-end.ensures c.deref-in-Some.ensures.value many in
    let own : own_of e (start_of (drop (suc i) es) (length ls)) ls ≡ c.between-attributes.result.now =
    sym (c.between-attributes.ensures ∙ (λ j. take (end j - e.start) (drop e.start (c.deref-in-Some-2.ensures.value j)))) in
    record {
      first = here;
      own = sym own;
      there = slice_get_within es i e here;
      lines = ap (λ (l : List Entry). lines_of l ls) (front-is i es e here)
          ∙ (λ j. first_line e ∷ own_lines e (own j) ++ lines_of (drop (sym (add-one i) j) es) ls);
    }

pub returns-in-None : goal.returns-in-None
returns-in-None c =
    let es = c.args.self.now.first_lines.items in
    ap (λ (l : List Entry). lines_of l c.args.self.now.attributes.items)
    (none-left c.args.i es (ap (λ (l : List Entry). slice_get l c.args.i) (sym c.deref.ensures.value) ∙ sym c.in-None.ensures))
