-- Where an operand stands among tokens.
use Rattle.std.proofs.{Common.{List, [], ap, append_assoc, refl, subst, sym, true, ℕ, ◌++◌, ◌∙◌, ◌∷◌, ◌≡◌}, lemmas.Bool.false≢true}
use Rattle.kc_language.specs.{Expressions.{Atom, Bang, Chain, Close, Compares, Joins, Keyword, Negation, Open, OperandToken, Part, Terminal, bang, compare, conjunction, group, joined, lone, negation, only, spell, spell_not, spell_part}, declared.expressions.Connective.Connective}
use Rattle.kc_expr.specs.{Parsing.HasOperand, Reading.{FailsNot, IsMemory, IsMemoryAt, starts_operand}, declared.parse.ExprFault.{ExprFault, TheVariants.{Memory, Syntax, TooDeep}}}

pub operand_after : (front ts : List Terminal) → HasOperand ts → HasOperand (front ++ ts)
operand_after front ts h = record {
  before = front ++ h.before;
  atom = h.atom;
  after = h.after;
  split = ap (λ l. front ++ l) h.split ∙ sym (append_assoc front h.before (OperandToken h.atom ∷ h.after));
}

pub operand_before : (ts rest : List Terminal) → HasOperand ts → HasOperand (ts ++ rest)
operand_before ts rest h = record {
  before = h.before;
  atom = h.atom;
  after = h.after ++ rest;
  split = ap (λ l. l ++ rest) h.split ∙ append_assoc h.before (OperandToken h.atom ∷ h.after) rest;
}

pub operand_first : (a : Atom) (rest : List Terminal) → HasOperand (OperandToken a ∷ rest)
operand_first a rest = record { before = []; atom = a; after = rest; split = refl }

pub operand_here : (ts rest : List Terminal) (a : Atom) → ts ≡ OperandToken a ∷ rest → HasOperand ts
operand_here ts rest a e = record { before = []; atom = a; after = rest; split = e }

pub operand_on : (ts front rest : List Terminal) → ts ≡ front ++ rest → HasOperand rest → HasOperand ts
operand_on ts front rest e h = subst HasOperand (sym e) (operand_after front rest h)

pub operand_in : (ts front rest : List Terminal) → ts ≡ front ++ rest → HasOperand front → HasOperand ts
operand_in ts front rest e h = subst HasOperand (sym e) (operand_before front rest h)

-- each part of an expression has an operand
mutual
  pub chain_operand : {c : Connective} (ps : Chain c) → HasOperand (spell ps)
  chain_operand (only p) = part_operand p
  chain_operand {c} (joined p ps) = operand_before (spell_part p) (Joins c ∷ spell ps) (part_operand p)

  pub part_operand : {c : Connective} (p : Part c) → HasOperand (spell_part p)
  part_operand (negation n) = not_operand n
  part_operand (conjunction ps) = chain_operand ps

  pub not_operand : (n : Negation) → HasOperand (spell_not n)
  not_operand (bang n) = operand_after (Bang ∷ []) (spell_not n) (not_operand n)
  not_operand (group d) = operand_after (Open ∷ []) (spell d ++ Close ∷ []) (operand_before (spell d) (Close ∷ []) (chain_operand d))
  not_operand (lone a) = operand_first a []
  not_operand (compare o a b) = operand_first a (Compares o ∷ (OperandToken b ∷ []))

pub plain_operand : (ts : List Terminal) → starts_operand ts ≡ true → HasOperand ts
plain_operand [] h = absurd (false≢true h)
plain_operand (OperandToken a ∷ ts) h = operand_first a ts
plain_operand (Compares o ∷ ts) h = absurd (false≢true h)
plain_operand (Bang ∷ ts) h = absurd (false≢true h)
plain_operand (Joins c ∷ ts) h = absurd (false≢true h)
plain_operand (Open ∷ ts) h = absurd (false≢true h)
plain_operand (Close ∷ ts) h = absurd (false≢true h)
plain_operand (Keyword ∷ ts) h = absurd (false≢true h)

-- memory was wanting where an operand stands
pub memory_not : (f : ExprFault) (k : ℕ) (ts : List Terminal) → IsMemory f → HasOperand ts → FailsNot f k ts
memory_not Syntax k ts m h = absurd m
memory_not TooDeep k ts m h = absurd m
memory_not Memory k ts m h = h

pub memory_at : (f : ExprFault) (k : ℕ) (ts : List Terminal) → IsMemoryAt ts f → FailsNot f k ts
memory_at Syntax k ts m = absurd m
memory_at TooDeep k ts m = absurd m
memory_at Memory k ts m = plain_operand ts m

pub is_memory : (f : ExprFault) (ts : List Terminal) → IsMemoryAt ts f → IsMemory f
is_memory Syntax ts m = absurd m
is_memory TooDeep ts m = absurd m
is_memory Memory ts m = tt
