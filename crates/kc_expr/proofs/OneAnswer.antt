-- The grammar has an answer to any tokens, and one.
use Rattle.std.proofs.{Common.{Bool, List, [], ap, append-nil, append_assoc, arith, false, inl, inr, length, refl, subst, suc, sym, true, zero, ℕ, ◌++◌, ◌+◌, ◌∙◌, ◌∷◌, ◌≡◌, ◌≤◌, ◌⊎◌}, lemmas.{Bool.false≢true, List.length-append}}
use Rattle.kc_language.specs.{Expressions.{Atom, Bang, Chain, Close, Compares, Disjunction, IsNoExpression, IsTooDeep, Joins, Keyword, LongestFront, Open, OperandToken, Part, Terminal, bang, compare, conjunction, group, levels, levels_not, levels_part, lone, negation, only, spell, spell_not, spell_part}, declared.{expressions.Connective.{Connective, TheVariants.{And, Or}}, tokens.Op.Op}}
use Rattle.kc_expr.specs.{Parsing.{Answer, Answers, Derived, NoExpression, OneAnswer, TooManyLevels}, PartsOfExpressions.spell_or, Reading.{FailsChain, FailsNot, FailsPart, NoneWithin, StopsChain, StopsNot, StopsPart, same_connective, starts_bang, starts_close, starts_compares, starts_joins, starts_open, starts_operand}, Scan.lone_in, declared.parse.ExprFault.{ExprFault, TheVariants.{Memory, Syntax, TooDeep}}}
use Rattle.kc_expr.proofs.{LongestLemmas.{is_expression, not_too_deep, one_longest}, OneTree.unambiguous, ParseLemmas.{no_left, no_right_side}, PushLemmas.{levels-push, lone-push, push, spell-push}, ReadingLemmas.{deep_bang_now, deep_group_now, fails_bang, fails_conjunction, fails_first, fails_group, fails_negation, fails_next, unclosed}, TopLemmas.{is_refused, longest_of}}

-- a part that was found at the front of tokens
record Got {T : Type 0} (spell_it : T → List Terminal) (levels_of : T → ℕ) (StopsIt : T → List Terminal → Type 0) (k : ℕ) (ts : List Terminal) : Type 0 where
  pub tree : T
  pub rest : List Terminal
  pub whole : ts ≡ spell_it tree ++ rest
  pub within : levels_of tree ≤ k
  pub stops : StopsIt tree rest

-- a refusal that is not being out of memory
abbrev IsFound : ExprFault → Type 0
IsFound Syntax = Unit {0}
IsFound TooDeep = Unit {0}
IsFound Memory = ⊥

abbrev GotNot : ℕ → List Terminal → Type 0
GotNot = Got spell_not levels_not StopsNot

abbrev GotPart : Connective → ℕ → List Terminal → Type 0
GotPart c = Got {T = Part c} spell_part levels_part (StopsPart c)

abbrev GotChain : Connective → ℕ → List Terminal → Type 0
GotChain c = Got {T = Chain c} spell levels (StopsChain c)

abbrev NotOrFault : ℕ → List Terminal → Type 0
NotOrFault k ts = GotNot k ts ⊎ ((f : ExprFault) × IsFound f × FailsNot f k ts)

abbrev PartOrFault : Connective → ℕ → List Terminal → Type 0
PartOrFault c k ts = GotPart c k ts ⊎ ((f : ExprFault) × IsFound f × FailsPart c f k ts)

abbrev ChainOrFault : Connective → ℕ → List Terminal → Type 0
ChainOrFault c k ts = GotChain c k ts ⊎ ((f : ExprFault) × IsFound f × FailsChain c f k ts)

-- ---- a chain, where its parts are found

same_is : (c d : Connective) → same_connective c d ≡ true → c ≡ d
same_is And And h = refl
same_is And Or h = absurd (false≢true h)
same_is Or And h = absurd (false≢true h)
same_is Or Or h = refl

joins_first : (c : Connective) (ts : List Terminal) → starts_joins c ts ≡ true → (rest : List Terminal) × (ts ≡ Joins c ∷ rest)
joins_first c [] h = absurd (false≢true h)
joins_first c (OperandToken a ∷ ts) h = absurd (false≢true h)
joins_first c (Compares o ∷ ts) h = absurd (false≢true h)
joins_first c (Bang ∷ ts) h = absurd (false≢true h)
joins_first c (Joins d ∷ ts) h = (ts, ap (λ e. Joins e ∷ ts) (sym (same_is c d h)))
joins_first c (Open ∷ ts) h = absurd (false≢true h)
joins_first c (Close ∷ ts) h = absurd (false≢true h)
joins_first c (Keyword ∷ ts) h = absurd (false≢true h)

module _ (c : Connective) (k n : ℕ) (parts : (ts : List Terminal) → length ts ≤ n → PartOrFault c k ts) where
  -- the parts so far stop but for the connective
  abbrev SoFar : Chain c → List Terminal → Type 0
  SoFar ps rest = (levels ps ≤ k) × (lone_in ps ≡ true → starts_compares rest ≡ false) × NoneWithin c rest

  pushed : (ps : Chain c) (q : Part c) (r rest : List Terminal) → r ≡ spell_part q ++ rest → spell ps ++ (Joins c ∷ r) ≡ spell (push ps q) ++ rest
  pushed ps q r rest e = ap (λ l. spell ps ++ (Joins c ∷ l)) e ∙ sym (append_assoc (spell ps) (Joins c ∷ spell_part q) rest) ∙ ap (λ l. l ++ rest) (sym (spell-push ps q))

  after_joins : (ps : Chain c) (r : List Terminal) → levels ps ≤ k →
      ((q : Chain c) (rest : List Terminal) → length rest ≤ length r → SoFar q rest → ChainOrFault c k (spell q ++ rest)) → PartOrFault c k r →
      ChainOrFault c k (spell ps ++ (Joins c ∷ r))
  after_joins ps r w next (inr x) = inr (x.0, x.1, fails_next x.0 k ps r w x.2)
  after_joins ps r w next (inl q) =
      let len : length r ≡ length (spell_part q.tree) + length q.rest = ap length q.whole ∙ length-append (spell_part q.tree) q.rest in
      subst (λ l. ChainOrFault c k l) (sym (pushed ps q.tree r q.rest q.whole))
      (next (push ps q.tree) q.rest (omega arith) (levels-push k ps q.tree w q.within, λ h. q.stops.0 (sym (lone-push ps q.tree) ∙ h), q.stops.1))

  step_on : (ps : Chain c) (rest : List Terminal) → length rest ≤ n → SoFar ps rest →
      ((q : Chain c) (r : List Terminal) → suc (length r) ≤ length rest → SoFar q r → ChainOrFault c k (spell q ++ r)) → ChainOrFault c k (spell ps ++ rest)
  step_on ps rest le s next = by (starts_joins c rest) refl
    where
      by : (b : Bool) → starts_joins c rest ≡ b → ChainOrFault c k (spell ps ++ rest)
      by false e = inl (record { tree = ps; rest = rest; whole = refl; within = s.0; stops = (s.1, s.2, e) })
      by true e =
          let x = joins_first c rest e in
          let len : length rest ≡ suc (length x.0) = ap length x.1 in
          subst (λ l. ChainOrFault c k (spell ps ++ l)) (sym x.1)
          (after_joins ps x.0 s.0 (λ q r fits h. next q r (omega arith) h) (parts x.0 (omega arith)))

  go_on : (fuel : ℕ) (ps : Chain c) (rest : List Terminal) → length rest ≤ fuel → length rest ≤ n → SoFar ps rest → ChainOrFault c k (spell ps ++ rest)
  go_on zero ps rest few le s = step_on ps rest le s (λ q r lt h. absurd (omega arith))
  go_on (suc fuel) ps rest few le s = step_on ps rest le s (λ q r lt h. go_on fuel q r (omega arith) (omega arith) h)

  after_first : (ts : List Terminal) → length ts ≤ n → PartOrFault c k ts → ChainOrFault c k ts
  after_first ts le (inr x) = inr (x.0, x.1, fails_first c x.0 k ts x.2)
  after_first ts le (inl p) =
      let len : length ts ≡ length (spell_part p.tree) + length p.rest = ap length p.whole ∙ length-append (spell_part p.tree) p.rest in
      subst (λ l. ChainOrFault c k l) (sym p.whole) (go_on (length p.rest) (only p.tree) p.rest (omega arith) (omega arith) (p.within, p.stops.0, p.stops.1))

  chain_here : (ts : List Terminal) → length ts ≤ n → ChainOrFault c k ts
  chain_here ts le = after_first ts le (parts ts le)

module _ (k n : ℕ) (nots : (ts : List Terminal) → length ts ≤ n → NotOrFault k ts) where
  and_part : (ts : List Terminal) → NotOrFault k ts → PartOrFault And k ts
  and_part ts (inr x) = inr (x.0, x.1, fails_negation x.0 k ts x.2)
  and_part ts (inl p) = inl (record { tree = negation p.tree; rest = p.rest; whole = p.whole; within = p.within; stops = (p.stops, tt) })

  or_part : (ts : List Terminal) → ChainOrFault And k ts → PartOrFault Or k ts
  or_part ts (inr x) = inr (x.0, x.1, fails_conjunction x.0 k ts x.2)
  or_part ts (inl p) = inl (record { tree = conjunction p.tree; rest = p.rest; whole = p.whole; within = p.within; stops = (p.stops.0, p.stops.2) })

  or_chain : (ts : List Terminal) → length ts ≤ n → ChainOrFault Or k ts
  or_chain ts le = chain_here Or k n (λ us fits. or_part us (chain_here And k n (λ vs short. and_part vs (nots vs short)) us fits)) ts le

-- ---- what stands between connectives

lone_got : (k : ℕ) (a : Atom) (ts : List Terminal) → starts_compares ts ≡ false → NotOrFault k (OperandToken a ∷ ts)
lone_got k a ts e = inl (record { tree = lone a; rest = ts; whole = refl; within = omega arith; stops = λ h. e })

no_second : (k : ℕ) (a : Atom) (o : Op) (ts : List Terminal) → starts_operand ts ≡ false → NotOrFault k (OperandToken a ∷ (Compares o ∷ ts))
no_second k a o ts e = inr (Syntax, tt, no_right_side (OperandToken a ∷ (Compares o ∷ ts)) ts a o refl e k)

relation_here : (k : ℕ) (a : Atom) (ts : List Terminal) → NotOrFault k (OperandToken a ∷ ts)
relation_here k a [] = lone_got k a [] refl
relation_here k a (OperandToken b ∷ ts) = lone_got k a (OperandToken b ∷ ts) refl
relation_here k a (Bang ∷ ts) = lone_got k a (Bang ∷ ts) refl
relation_here k a (Joins c ∷ ts) = lone_got k a (Joins c ∷ ts) refl
relation_here k a (Open ∷ ts) = lone_got k a (Open ∷ ts) refl
relation_here k a (Close ∷ ts) = lone_got k a (Close ∷ ts) refl
relation_here k a (Keyword ∷ ts) = lone_got k a (Keyword ∷ ts) refl
relation_here k a (Compares o ∷ []) = no_second k a o [] refl
relation_here k a (Compares o ∷ (OperandToken b ∷ ts)) = inl (record { tree = compare o a b; rest = ts; whole = refl; within = omega arith; stops = λ h. absurd (false≢true h) })
relation_here k a (Compares o ∷ (Compares p ∷ ts)) = no_second k a o (Compares p ∷ ts) refl
relation_here k a (Compares o ∷ (Bang ∷ ts)) = no_second k a o (Bang ∷ ts) refl
relation_here k a (Compares o ∷ (Joins c ∷ ts)) = no_second k a o (Joins c ∷ ts) refl
relation_here k a (Compares o ∷ (Open ∷ ts)) = no_second k a o (Open ∷ ts) refl
relation_here k a (Compares o ∷ (Close ∷ ts)) = no_second k a o (Close ∷ ts) refl
relation_here k a (Compares o ∷ (Keyword ∷ ts)) = no_second k a o (Keyword ∷ ts) refl

bang_here : (k : ℕ) (ts : List Terminal) → NotOrFault k ts → NotOrFault (suc k) (Bang ∷ ts)
bang_here k ts (inr x) = inr (x.0, x.1, fails_bang x.0 k ts x.2)
bang_here k ts (inl p) = inl (record { tree = bang p.tree; rest = p.rest; whole = ap (λ l. Bang ∷ l) p.whole; within = let w = p.within in omega arith; stops = p.stops })

not_closed : (k : ℕ) (d : Disjunction) (rest : List Terminal) → levels d ≤ k → StopsChain Or d rest → starts_close rest ≡ false → NotOrFault (suc k) (Open ∷ (spell d ++ rest))
not_closed k d rest w s e = inr (Syntax, tt, unclosed k d rest w s e)

closing : (k : ℕ) (d : Disjunction) (rest : List Terminal) → levels d ≤ k → StopsChain Or d rest → NotOrFault (suc k) (Open ∷ (spell d ++ rest))
closing k d [] w s = not_closed k d [] w s refl
closing k d (OperandToken a ∷ ts) w s = not_closed k d (OperandToken a ∷ ts) w s refl
closing k d (Compares o ∷ ts) w s = not_closed k d (Compares o ∷ ts) w s refl
closing k d (Bang ∷ ts) w s = not_closed k d (Bang ∷ ts) w s refl
closing k d (Joins c ∷ ts) w s = not_closed k d (Joins c ∷ ts) w s refl
closing k d (Open ∷ ts) w s = not_closed k d (Open ∷ ts) w s refl
closing k d (Keyword ∷ ts) w s = not_closed k d (Keyword ∷ ts) w s refl
closing k d (Close ∷ ts) w s = inl (record {
  tree = group d;
  rest = ts;
  whole = ap (λ l. Open ∷ l) (sym (append_assoc (spell d) (Close ∷ []) ts));
  within = omega arith;
  stops = λ h. absurd (false≢true h);
})

group_here : (k : ℕ) (ts : List Terminal) → ChainOrFault Or k ts → NotOrFault (suc k) (Open ∷ ts)
group_here k ts (inr x) = inr (x.0, x.1, fails_group x.0 k ts x.2)
group_here k ts (inl p) = subst (λ l. NotOrFault (suc k) (Open ∷ l)) (sym p.whole) (closing k p.tree p.rest p.within p.stops)

nothing_here : (k : ℕ) (ts : List Terminal) → starts_operand ts ≡ false → starts_bang ts ≡ false → starts_open ts ≡ false → NotOrFault k ts
nothing_here k ts p b o = inr (Syntax, tt, no_left ts p b o k)

not_here : (n k : ℕ) (ts : List Terminal) → length ts ≤ n → NotOrFault k ts
not_here n k [] le = nothing_here k [] refl refl refl
not_here zero k (t ∷ ts) le = absurd (omega arith)
not_here (suc n) k (OperandToken a ∷ ts) le = relation_here k a ts
not_here (suc n) k (Compares o ∷ ts) le = nothing_here k (Compares o ∷ ts) refl refl refl
not_here (suc n) k (Joins c ∷ ts) le = nothing_here k (Joins c ∷ ts) refl refl refl
not_here (suc n) k (Close ∷ ts) le = nothing_here k (Close ∷ ts) refl refl refl
not_here (suc n) k (Keyword ∷ ts) le = nothing_here k (Keyword ∷ ts) refl refl refl
not_here (suc n) zero (Bang ∷ ts) le = inr (TooDeep, tt, deep_bang_now ts)
not_here (suc n) (suc k) (Bang ∷ ts) le = bang_here k ts (not_here n k ts (omega arith))
not_here (suc n) zero (Open ∷ ts) le = inr (TooDeep, tt, deep_group_now ts)
not_here (suc n) (suc k) (Open ∷ ts) le = group_here k ts (or_chain k n (λ us fits. not_here n k us fits) ts (omega arith))

-- ---- the answer

abbrev Answered : List Terminal → Type 0
Answered ts = (answer : Answer) × Answers ts answer

refused : (ts : List Terminal) (f : ExprFault) → IsFound f → FailsChain Or f 64 ts → Answered ts
refused ts Syntax i h = (NoExpression, is_refused Syntax ts h)
refused ts TooDeep i h = (TooManyLevels, is_refused TooDeep ts h)
refused ts Memory i h = absurd i

answered : (ts : List Terminal) → ChainOrFault Or 64 ts → Answered ts
answered ts (inr x) = refused ts x.0 x.1 x.2
answered ts (inl p) = (Derived p.tree p.rest, (subst (λ l. LongestFront l (spell p.tree) p.rest) (sym p.whole) (longest_of p.tree p.rest p.within p.stops), p.within))

no_refusal : (ts : List Terminal) (d : Disjunction) (rest : List Terminal) → Answers ts (Derived d rest) → (IsNoExpression ts → ⊥) × (IsTooDeep ts → ⊥)
no_refusal ts d rest a = (is_expression ts rest d a.0, not_too_deep ts (spell_or d) rest a.0 (d, [], a.1, sym (append-nil (spell_or d))))

no_both : (ts : List Terminal) → IsNoExpression ts → IsTooDeep ts → ⊥
no_both ts n d = not_too_deep ts n.front n.rest n.longest n.within d

same_answer : (ts : List Terminal) (a b : Answer) → Answers ts a → Answers ts b → a ≡ b
same_answer ts (Derived d r) (Derived e s) x y =
    let one = one_longest ts (spell_or d) r (spell_or e) s x.0 y.0 in
    let tree = unambiguous d e one.0 in
    λ i. Derived (tree i) (one.1 i)
same_answer ts (Derived d r) NoExpression x y = absurd ((no_refusal ts d r x).0 y)
same_answer ts (Derived d r) TooManyLevels x y = absurd ((no_refusal ts d r x).1 y)
same_answer ts NoExpression (Derived e s) x y = absurd ((no_refusal ts e s y).0 x)
same_answer ts NoExpression NoExpression x y = refl
same_answer ts NoExpression TooManyLevels x y = absurd (no_both ts x y)
same_answer ts TooManyLevels (Derived e s) x y = absurd ((no_refusal ts e s y).1 x)
same_answer ts TooManyLevels NoExpression x y = absurd (no_both ts y x)
same_answer ts TooManyLevels TooManyLevels x y = refl

pub one_answer_law : OneAnswer
one_answer_law ts =
    let a = answered ts (or_chain 64 (length ts) (λ us fits. not_here (length ts) 64 us fits) ts (omega arith)) in
    (a.0, a.1, λ other y. same_answer ts a.0 other a.1 y)
