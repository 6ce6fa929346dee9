use Rattle.std.proofs.Common.{◌≡◌, [], map, None, unwrap_or}
use Rattle.std.specs.List.{last_or}
use denote.Text.{Utf8}
use denote.Shadow.{shadow}
use Rattle.kc_words.proofs.patterns.file_name.Given as goal

-- the name is the last part so far
abbrev pub invariant-loop-part : goal.invariant-loop-part
invariant-loop-part l = shadow (Utf8 l.name) × (l.name ≡ unwrap_or (last_or None (map (λ x. x.now) l.yielded)) [])
