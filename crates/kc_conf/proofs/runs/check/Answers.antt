-- A file holds its text, or does not and is told, or telling it fails.
use Rattle.std.proofs.Common.{◌≡◌, ℕ, ◌+◌, ◌<◌, List, [], ◌∷◌, ◌++◌, map, take, drop, length, get_or, sym, ap, ◌∙◌}
use Rattle.std.proofs.lemmas.List.{drop_more, map-append, take-append-drop, take_more}
use Rattle.kc_io.specs.Log.{is_held}
use Rattle.kc_io.specs.Delivered.{text_view}
use Rattle.kc_io.specs.declared.delivery.Text.{Text}
use Rattle.kc_conf.proofs.EndingLemmas.{BreaksEnd-old, IsChecked-fresh, IsChecked-old}
use Rattle.kc_conf.proofs.runs.check.Goals as goal
use Rattle.kc_conf.proofs.runs.check.Goals.{then-not-holds+in_default, else-not-holds}

texts-more : (texts : List Text) (i : ℕ) (text : Text) → i < length texts → text ≡ get_or texts i text → map text_view (take (i + 1) texts) ≡ map text_view (take i texts) ++ text_view text ∷ []
texts-more texts i text within is =
    ap (map text_view) (take_more texts i text within ∙ ap (λ (t : Text). take i texts ++ t ∷ []) (sym is)) ∙ map-append text_view (take i texts) (text ∷ [])

texts-split : (texts : List Text) (i : ℕ) (text : Text) → i < length texts → text ≡ get_or texts i text → map text_view texts ≡ map text_view (take i texts) ++ text_view text ∷ map text_view (drop (i + 1) texts)
texts-split texts i text within is =
    ap (map text_view) (sym (take-append-drop i texts) ∙ ap (λ l. take i texts ++ l) (drop_more texts i text within ∙ ap (λ (t : Text). t ∷ drop (i + 1) texts) (sym is)))
    ∙ map-append text_view (take i texts) (text ∷ drop (i + 1) texts)

pub loop-text-preserved : goal.loop-text-preserved
loop-text-preserved g c =
    let texts = c.args.texts.now in
    let i = c.loop-text.text-index in
    let text = c.text-item.result in
    let front = map text_view (take i texts) in
    let old = g.D.Device.log c.args.device.now in
    let mid = g.D.Device.log c.loop-text.device in
    let more = texts-more texts i text c.loop-text-test.true c.text-item.is in
    elim c.if-not-holds.branch [
      | then-not-holds+in_default w ↦
          rw (w.device-is, w.status-is, more)
          (IsChecked-old c.args.options.now old mid front c.loop-text.status c.loop-text.invariant (text_view text)
          (λ journal e. sym w.if-not-holds.true ∙ c.holds.ensures journal e ∙ ap (is_held journal text.name.now) c.deref.ensures.value)
          (g.D.Device.log w.say_error.new.device) (rw w.as_bytes.ensures.value at w.in_default.ensures))
      | else-not-holds w ↦
          rw (w.device-is, w.status-is, more)
          (IsChecked-fresh c.args.options.now old mid front c.loop-text.status c.loop-text.invariant (text_view text)
          (λ journal e. sym w.if-not-holds.false ∙ c.holds.ensures journal e ∙ ap (is_held journal text.name.now) c.deref.ensures.value))
    ]

pub returns-in-Err : goal.returns-in-Err
returns-in-Err g c =
    let texts = c.args.texts.now in
    let i = c.loop-text.text-index in
    let text = c.text-item.result in
    rw (texts-split texts i text c.loop-text-test.true c.text-item.is)
    (BreaksEnd-old c.args.options.now (g.D.Device.log c.args.device.now) (g.D.Device.log c.loop-text.device) (map text_view (take i texts)) c.loop-text.status c.loop-text.invariant (text_view text)
    (λ journal e. sym c.if-not-holds.true ∙ c.holds.ensures journal e ∙ ap (is_held journal text.name.now) c.deref.ensures.value)
    c.requires (map text_view (drop (i + 1) texts)) c.in-Err.stop (g.D.Device.log c.say_error.new.device) c.in-Err.ensures.0 c.in-Err.ensures.1)
