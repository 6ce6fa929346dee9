-- Why `marker_of` keeps its contract.
use Rattle.std.proofs.Common.{◌≡◌, ℕ, List, None, sym, subst, drop, take}
use Rattle.kc_language.specs.Text.{natural_of}
use Rattle.kc_text.specs.Markers.{IsQuotedName}
use Rattle.kc_text.proofs.MarkerLemmas.{no_name_here, no_number_here}
use Rattle.kc_text.proofs.marker.marker_of.Goals as goal

pub returns-in-None-quoted_name : goal.returns-in-None-quoted_name
returns-in-None-quoted_name c = no_name_here c.args.line.now c.in-Some.body.now c.digits_len.result c.in-Some.ensures c.digits_len.ensures
    (subst (λ t. (name : List ℕ) → IsQuotedName t name → ⊥) c.split_at.ensures.back c.in-None-quoted_name.ensures)

pub returns-in-None-natural : goal.returns-in-None-natural
returns-in-None-natural c = no_number_here c.args.line.now c.in-Some.body.now c.digits_len.result c.in-Some.ensures c.digits_len.ensures
    (sym (subst (λ t. None ≡ natural_of 10 4294967296 t) c.split_at.ensures.front c.in-None-natural.ensures.number))
