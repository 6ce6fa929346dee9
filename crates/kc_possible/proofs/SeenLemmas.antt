-- Walks that keep the bounds of the greatest of what they have seen.
use Rattle.std.proofs.Common.{ap, subst, sym, ◌∙◌, ◌≡◌}
use Rattle.kc_language.specs.{Expressions.greater, declared.expressions.Tri.{TheVariants.N, Tri}}
use Rattle.kc_possible.specs.{Bounds.IsWithin, declared.bounds.Bounds.Bounds}
use Rattle.kc_values.proofs.TriLemmas.{greater-step, greater_n}

-- what was seen is between the bounds, and with what is left it makes the whole
pub record IsSeen (b : Bounds) (left whole : Tri) : Type 0 where
  pub seen : Tri
  pub within : IsWithin b seen
  pub rest : greater seen left ≡ whole

pub seen-none : (b : Bounds) (left whole : Tri) → IsWithin b N → left ≡ whole → IsSeen b left whole
seen-none b left whole h e = record { seen = N; within = h; rest = e }

pub seen-more : (b found result : Bounds) (left more next whole : Tri) → ((t u : Tri) → IsWithin b t → IsWithin found u → IsWithin result (greater t u)) →
    IsWithin found more → left ≡ greater more next → IsSeen b left whole → IsSeen result next whole
seen-more b found result left more next whole grows h e s = record {
  seen = greater s.seen more;
  within = grows s.seen more s.within h;
  rest = greater-step s.seen more next left whole e s.rest;
}

pub seen-all : (b : Bounds) (left whole : Tri) → left ≡ N → IsSeen b left whole → IsWithin b whole
seen-all b left whole e s = subst (λ t. IsWithin b t) (sym (greater_n s.seen) ∙ ap (greater s.seen) (sym e) ∙ s.rest) s.within
