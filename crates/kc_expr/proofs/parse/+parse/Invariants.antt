-- The invariants and measures of the cycle of `parse`.
use Rattle.std.proofs.Common.{length, map, ◌*◌, ◌+◌, ◌-◌, ◌≤◌}
use Rattle.kc_expr.specs.{Form.{form_of, parts_of}, Names.Extends}
use Rattle.kc_expr.proofs.ParseLemmas.{ReadParts, rank}
use Rattle.kc_expr.proofs.parse.+parse.Given as goal

abbrev pub decreases-negation : goal.decreases-negation
decreases-negation l = 5 * l.levels

abbrev pub decreases-part : goal.decreases-part
decreases-part l = 5 * l.levels + rank l.connective + 1

abbrev pub decreases-chain : goal.decreases-chain
decreases-chain l = 5 * l.levels + rank l.connective + 2

abbrev pub invariant-chain-rest : goal.invariant-chain-rest
invariant-chain-rest l = record {
  parts : ReadParts l.connective l.condition l.levels l.tokens l.fn.at l.place l.fn.names l.names (map form_of (parts_of l.parts));
  names : Extends l.fn.names l.names;
  within : l.place ≤ length l.tokens;
}

abbrev pub decreases-chain-rest : goal.decreases-chain-rest
decreases-chain-rest l = length l.tokens - l.place
