use Rattle.std.proofs.{Common.{Some, [], ap, append-nil, false, length, refl, slice_set, suc, sym, true, ◌++◌, ◌∙◌, ◌∷◌, ◌≡◌}, lemmas.Option.slice_get-get_or}
use Rattle.kc_tree.specs.declared.rows.SelectorId.{SelectorId}
use Rattle.kc_build.specs.{SelectorRows.with_last, SymbolRows.can_be_target}
use Rattle.kc_build.proofs.selectors.add_selector.Goals as goal

pub returns-then-not-is_target : goal.returns-then-not-is_target
returns-then-not-is_target c =
    let row = c.index_mut-symbol.result.now in
    let no : can_be_target row ≡ false = sym c.is_target.ensures ∙ c.if-not-is_target.true in
    record {
      row = row;
      at = slice_get-get_or c.args.symbols.now.items c.args.target.symbol.0 row c.requires.there ∙ ap Some (sym c.index_mut-symbol.ensures.value);
      rows_are = rw no refl;
      lines_are = rw no (sym (append-nil c.args.lines.now.items));
    }

pub returns : goal.returns
returns c =
    let row = c.index_mut-symbol.result.now in
    let lines = c.args.lines.now.items in
    let yes : can_be_target row ≡ true = sym c.is_target.ensures ∙ c.if-not-is_target.false in
    let id : c.of.result ≡ record { 0 = suc (length lines) } = λ i. record { 0 = (c.of.ensures ∙ ap suc (c.len.ensures ∙ c.args.lines.now.ok.0)) i } in
    let now : c.set_last-next.new.symbol ≡ with_last c.args.target.word (record { 0 = suc (length lines) }) row =
    c.set_last-next.ensures.now ∙ ap (λ (k : SelectorId). with_last c.args.target.word k row) id in
    record {
      row = row;
      at = slice_get-get_or c.args.symbols.now.items c.args.target.symbol.0 row c.requires.there ∙ ap Some (sym c.index_mut-symbol.ensures.value);
      rows_are = rw yes (ap (slice_set c.args.symbols.now.items c.args.target.symbol.0) now);
      lines_are = rw yes (c.in_ok-push.ensures.items
          ∙ ap (λ (k : SelectorId). lines ++ record { entry = c.args.entry; attribute = c.args.attribute; next = k } ∷ []) c.set_last-next.ensures.before);
    }
