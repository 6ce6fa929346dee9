use Rattle.std.proofs.{Common.{ap, arith, length, map, refl, sym, ◌-◌, ◌<◌, ◌∙◌, ◌≡◌}, lemmas.List.length-map}
use Rattle.kc_build.specs.Standing.{change, choice_row, with_last_member, with_member}
use Rattle.kc_build.proofs.ChangeLemmas.{set_changed}
use Rattle.kc_build.proofs.blocks.Blocks.add_member.Goals as goal

pub returns-in_ok-push : goal.returns-in_ok-push
returns-in_ok-push c =
    let b = c.args.self.now in
    let s = c.args.symbol in
    let rows = map choice_row c.args.self.now.choices.items in
    let size : c.len-count.result ≡ length c.args.self.now.choices.items = omega (arith, c.len-count.ensures, c.args.self.now.choices.ok) in
    let within : c.len-count.result - 1 < length c.args.self.now.choices.items = omega (arith, size, c.if-count-gt0.true) in
    let last : c.len-count.result - 1 ≡ length (map choice_row c.args.self.now.choices.items) - 1 = omega (arith, size, length-map c.args.self.now.choices.items choice_row) in
    record {
      keeps = record { places = refl; visibles = refl };
      rows =
          set_changed choice_row (with_member s) b.choices.items (c.len-count.result - 1) c.index_mut.result.now _ within c.index_mut.ensures.value
          (ap (λ l. (c.index_mut.result.now.entry.0, l)) c.in_ok-push.ensures.items)
          ∙ ap (λ n. change (with_member s) n rows) last
          ∙ ap (λ o. with_last_member o s rows) (sym c.if-self.true);
      block = refl;
      is_in_choice = refl;
    }
