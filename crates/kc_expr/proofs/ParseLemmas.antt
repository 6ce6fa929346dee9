-- What the parser's functions need of tokens and names.
use Rattle.std.proofs.{Common.{Bool, IfErr, IsErrAnd, List, Result, [], ap, append-nil, append_assoc, arith, false, refl, subst, suc, sym, true, ℕ, ◌++◌, ◌+◌, ◌-◌, ◌∙◌, ◌∷◌, ◌≡◌, ◌≢◌, ◌≤◌}, lemmas.{Bool.false≢true, Result.err_from_is_err_and}}
use Rattle.kc_language.specs.{Expressions.{Atom, Bang, Chain, Close, Compares, Form, Joins, Keyword, Leaf, Negated, Open, OperandToken, Related, Terminal, all_mentioned, bang, compare, conjunction, forms, group, joined, leaf, levels, levels_not, lone, meaning, names_in_atom, negation, number_of, only, parts, spell, spell_not, spell_part}, declared.{expressions.Connective.{Connective, TheVariants.{And, Or}}, tokens.Op.Op}}
use Rattle.kc_text.specs.declared.tokens.Token.{Token}
use Rattle.kc_expr.specs.{Grammar.terminals_from, Names.Extends, PartsOfExpressions.{connected, lone_form, names_in_terminals}, Reading.{Any_start, Broken, Deep, FailsChain, FailsNot, FailsPart, NoneWithin, ParsedChain, ParsedNot, ParsedPart, Refuses, starts_bang, starts_close, starts_compares, starts_joins, starts_open, starts_operand}, Scan.{lone_in, right, want}, declared.parse.ExprFault.ExprFault}
use Rattle.kc_expr.proofs.{NamesLemmas.{extends_on, mentioned_extends, mentioned_on, names_in_terminals-append, names_in_terminals-closed}, PushLemmas.{levels-push, lone-push, parts-push, push, spell-push}, ReadingLemmas.{deep_bang_now, deep_group_now, fails_bang, fails_group, fails_next, no_operand, no_right, unclosed}}

refuses_want : (limit cur base : ℕ) (stack : List ℕ) (ts : List Terminal) → starts_operand ts ≡ false → starts_bang ts ≡ false → starts_open ts ≡ false → Refuses limit (want cur base stack) ts
refuses_want limit cur base stack [] p b o = tt
refuses_want limit cur base stack (OperandToken a ∷ ts) p b o = absurd (false≢true (sym p))
refuses_want limit cur base stack (Bang ∷ ts) p b o = absurd (false≢true (sym b))
refuses_want limit cur base stack (Open ∷ ts) p b o = absurd (false≢true (sym o))
refuses_want limit cur base stack (Compares r ∷ ts) p b o = refl
refuses_want limit cur base stack (Joins c ∷ ts) p b o = refl
refuses_want limit cur base stack (Close ∷ ts) p b o = refl
refuses_want limit cur base stack (Keyword ∷ ts) p b o = refl

refuses_right : (limit base : ℕ) (stack : List ℕ) (ts : List Terminal) → starts_operand ts ≡ false → Refuses limit (right base stack) ts
refuses_right limit base stack [] p = tt
refuses_right limit base stack (OperandToken a ∷ ts) p = absurd (false≢true (sym p))
refuses_right limit base stack (Bang ∷ ts) p = refl
refuses_right limit base stack (Open ∷ ts) p = refl
refuses_right limit base stack (Compares r ∷ ts) p = refl
refuses_right limit base stack (Joins c ∷ ts) p = refl
refuses_right limit base stack (Close ∷ ts) p = refl
refuses_right limit base stack (Keyword ∷ ts) p = refl

pub no_left : (ts : List Terminal) → starts_operand ts ≡ false → starts_bang ts ≡ false → starts_open ts ≡ false → (k : ℕ) → Broken spell_not levels_not Any_start k ts
no_left ts p b o k = no_operand k ts (λ limit cur base stack. refuses_want limit cur base stack ts p b o)

pub no_right_side : (ts rest : List Terminal) (a : Atom) (r : Op) → ts ≡ OperandToken a ∷ (Compares r ∷ rest) → starts_operand rest ≡ false → (k : ℕ) → Broken spell_not levels_not Any_start k ts
no_right_side ts rest a r e p k =
    subst (λ l. Broken spell_not levels_not Any_start k l) (sym e) (no_right k a r rest (λ limit base stack. refuses_right limit base stack rest p))

-- an operand that is alone
pub parsed_lone : (condition : Bool) (ts rest : List Terminal) (old names : List (List ℕ)) (a : Atom) (l : Leaf) (f : Form) → ts ≡ OperandToken a ∷ rest →
    starts_compares rest ≡ false → names ≡ all_mentioned old (names_in_atom a) →
    ((later : List (List ℕ)) → Extends names later → l ≡ leaf (number_of later) a) → f ≡ lone_form condition l → (k : ℕ) →
    ParsedNot condition k ts rest old names f
parsed_lone condition ts rest old names a l f e s m is lone_expression k = record {
  tree = lone a;
  whole = e;
  mentions = m ∙ ap (all_mentioned old) (sym (append-nil (names_in_atom a)));
  within = omega arith;
  stops = λ _. s;
  form = λ later x. lone_expression ∙ ap (lone_form condition) (is later x);
}

-- a relation
pub parsed_compare : (condition : Bool) (ts rest : List Terminal) (old now names : List (List ℕ)) (a b : Atom) (r : Op) (l m : Leaf) → ts ≡ OperandToken a ∷
    (Compares r ∷ (OperandToken b ∷ rest)) → now ≡ all_mentioned old (names_in_atom a) → names ≡ all_mentioned now (names_in_atom b) →
    ((later : List (List ℕ)) → Extends now later → l ≡ leaf (number_of later) a) →
    ((later : List (List ℕ)) → Extends names later → m ≡ leaf (number_of later) b) → (k : ℕ) → ParsedNot condition k ts rest old names (Related r l m)
parsed_compare condition ts rest old now names a b r l m e first second is js k = record {
  tree = compare r a b;
  whole = e;
  mentions = mentioned_on old now names (names_in_atom a) (names_in_atom b) first second ∙ ap (λ ws. all_mentioned old (names_in_atom a ++ ws)) (sym (append-nil (names_in_atom b)));
  within = omega arith;
  stops = λ h. absurd (false≢true h);
  form = λ later x.
      let p = is later (extends_on now names later (mentioned_extends now names (names_in_atom b) second) x) in
      let q = js later x in
      ap (λ y. Related r y m) p ∙ ap (λ y. Related r (leaf (number_of later) a) y) q;
}

-- The parts that were read so far, which end at a place.
pub record ReadParts (c : Connective) (condition : Bool) (k : ℕ) (tokens : List Token) (at place : ℕ) (old names : List (List ℕ)) (fs : List Form) : Type 0 where
  pub tree : Chain c
  pub after : at ≤ place
  pub whole : terminals_from tokens at ≡ spell tree ++ terminals_from tokens place
  pub mentions : names ≡ all_mentioned old (names_in_terminals (spell tree))
  pub within : levels tree ≤ k
  pub stops : (lone_in tree ≡ true → starts_compares (terminals_from tokens place) ≡ false) × NoneWithin c (terminals_from tokens place)
  pub forms_are : (later : List (List ℕ)) → Extends names later → fs ≡ parts condition (number_of later) tree

-- a fault that is passed on
pub fault_passed : {X : Type 0} (r : Result X ExprFault) (P : ExprFault → Type 0) (e : ExprFault) → IsErrAnd r (λ y. y ≡ e) → P e → IfErr r P
fault_passed r P e h p = let q = err_from_is_err_and r h in rw (q.1, q.2) p

abbrev BrokenNot : ℕ → List Terminal → Type 0
BrokenNot = Broken spell_not levels_not Any_start

abbrev DeepNot : ℕ → List Terminal → Type 0
DeepNot = Deep spell_not levels_not Any_start

pub deep_bang_at : (k : ℕ) (ts rest : List Terminal) → k ≡ 0 → ts ≡ Bang ∷ rest → DeepNot k ts
deep_bang_at k ts rest e w = rw (e, w) (deep_bang_now rest)

pub deep_group_at : (k : ℕ) (ts rest : List Terminal) → k ≡ 0 → ts ≡ Open ∷ rest → DeepNot k ts
deep_group_at k ts rest e w = rw (e, w) (deep_group_now rest)

pub fails_bang_at : (f : ExprFault) (k : ℕ) (ts rest : List Terminal) → k ≢ 0 → ts ≡ Bang ∷ rest → FailsNot f (k - 1) rest → FailsNot f k ts
fails_bang_at f k ts rest n w h =
    let e : k ≡ suc (k - 1) = omega arith in
    subst (λ l. FailsNot f k l) (sym w) (subst (λ m. FailsNot f m (Bang ∷ rest)) (sym e) (fails_bang f (k - 1) rest h))

pub fails_group_at : (f : ExprFault) (k : ℕ) (ts rest : List Terminal) → k ≢ 0 → ts ≡ Open ∷ rest → FailsChain Or f (k - 1) rest → FailsNot f k ts
fails_group_at f k ts rest n w h =
    let e : k ≡ suc (k - 1) = omega arith in
    subst (λ l. FailsNot f k l) (sym w) (subst (λ m. FailsNot f m (Open ∷ rest)) (sym e) (fails_group f (k - 1) rest h))

pub parsed_bang : (condition : Bool) (k : ℕ) (ts inside rest : List Terminal) (old names : List (List ℕ)) (f g : Form) → k ≢ 0 → ts ≡ Bang ∷ inside →
    f ≡ Negated g → ParsedNot condition (k - 1) inside rest old names g → ParsedNot condition k ts rest old names f
parsed_bang condition k ts inside rest old names f g n w e p = record {
  tree = bang p.tree;
  whole = w ∙ ap (λ l. Bang ∷ l) p.whole;
  mentions = p.mentions;
  within = let v = p.within in omega arith;
  stops = p.stops;
  form = λ later x. e ∙ ap Negated (p.form later x);
}

pub unclosed_at : (condition : Bool) (k : ℕ) (ts inside rest : List Terminal) (old names : List (List ℕ)) (f : Form) → k ≢ 0 → ts ≡ Open ∷ inside →
    ParsedChain Or condition (k - 1) inside rest old names f → starts_close rest ≡ false → BrokenNot k ts
unclosed_at condition k ts inside rest old names f n w p s =
    let e : k ≡ suc (k - 1) = omega arith in
    let all = w ∙ ap (λ l. Open ∷ l) p.whole in
    subst (λ l. BrokenNot k l) (sym all) (subst (λ m. BrokenNot m (Open ∷ (spell p.tree ++ rest))) (sym e) (unclosed (k - 1) p.tree rest p.within p.stops s))

pub parsed_group : (condition : Bool) (k : ℕ) (ts inside close rest : List Terminal) (old names : List (List ℕ)) (f : Form) → k ≢ 0 → ts ≡ Open ∷
    inside → ParsedChain Or condition (k - 1) inside close old names f → close ≡ Close ∷ rest → ParsedNot condition k ts rest old names f
parsed_group condition k ts inside close rest old names f n w p e = record {
  tree = group p.tree;
  whole = w ∙ ap (λ l. Open ∷ l) (p.whole ∙ ap (λ l. spell p.tree ++ l) e ∙ sym (append_assoc (spell p.tree) (Close ∷ []) rest));
  mentions = p.mentions ∙ ap (all_mentioned old) (sym (names_in_terminals-closed (spell p.tree)));
  within = let v = p.within in omega arith;
  stops = λ h. absurd (false≢true h);
  form = p.form;
}

-- a negation or a conjunction as a part
pub parsed_negation : (condition : Bool) (k : ℕ) (ts rest : List Terminal) (old names : List (List ℕ)) (f : Form) →
    ParsedNot condition k ts rest old names f → ParsedPart And condition k ts rest old names f
parsed_negation condition k ts rest old names f p = record {
  tree = negation p.tree;
  whole = p.whole;
  mentions = p.mentions;
  within = p.within;
  stops = (p.stops, tt);
  form = p.form;
}

pub parsed_conjunction : (condition : Bool) (k : ℕ) (ts rest : List Terminal) (old names : List (List ℕ)) (f : Form) →
    ParsedChain And condition k ts rest old names f → ParsedPart Or condition k ts rest old names f
parsed_conjunction condition k ts rest old names f p = record {
  tree = conjunction p.tree;
  whole = p.whole;
  mentions = p.mentions;
  within = p.within;
  stops = (p.stops.0, p.stops.2);
  form = p.form;
}

-- one part, that no connective joins to another
pub parsed_only : (c : Connective) (condition : Bool) (k : ℕ) (ts rest : List Terminal) (old names : List (List ℕ)) (f : Form) →
    ParsedPart c condition k ts rest old names f → starts_joins c rest ≡ false → ParsedChain c condition k ts rest old names f
parsed_only c condition k ts rest old names f p s = record {
  tree = only p.tree;
  whole = p.whole;
  mentions = p.mentions;
  within = p.within;
  stops = (p.stops.0, p.stops.1, s);
  form = p.form;
}

-- the first part
pub parts_one : (c : Connective) (condition : Bool) (k : ℕ) (tokens : List Token) (at place : ℕ) (old names : List (List ℕ)) (f : Form) →
    ParsedPart c condition k (terminals_from tokens at) (terminals_from tokens place) old names f → at ≤ place →
    ReadParts c condition k tokens at place old names (f ∷ [])
parts_one c condition k tokens at place old names f p a = record {
  tree = only p.tree;
  after = a;
  whole = p.whole;
  mentions = p.mentions;
  within = p.within;
  stops = p.stops;
  forms_are = λ later x. ap (λ g. g ∷ []) (p.form later x);
}

-- one more part, where the connective stands at the place
pub parts_next : (c : Connective) (condition : Bool) (k : ℕ) (tokens : List Token) (at place end : ℕ) (old names names' : List (List ℕ)) (fs gs : List Form) (f : Form) →
    ReadParts c condition k tokens at place old names fs → terminals_from tokens place ≡ Joins c ∷ terminals_from tokens (place + 1) →
    Extends names names' → ParsedPart c condition k (terminals_from tokens (place + 1)) (terminals_from tokens end) names names' f → place + 1 ≤ end →
    gs ≡ fs ++ f ∷ [] → ReadParts c condition k tokens at end old names' gs
parts_next c condition k tokens at place end old names names' fs gs f s is ext q a all = record {
  tree = push s.tree q.tree;
  after = let b = s.after in omega arith;
  whole =
      s.whole ∙ ap (λ l. spell s.tree ++ l) (is ∙ ap (λ l. Joins c ∷ l) q.whole)
      ∙ sym (append_assoc (spell s.tree) (Joins c ∷ spell_part q.tree) (terminals_from tokens end))
      ∙ ap (λ l. l ++ terminals_from tokens end) (sym (spell-push s.tree q.tree));
  mentions =
      mentioned_on old names names' (names_in_terminals (spell s.tree)) (names_in_terminals (spell_part q.tree)) s.mentions q.mentions
      ∙ ap (all_mentioned old) (sym (ap names_in_terminals (spell-push s.tree q.tree) ∙ names_in_terminals-append (spell s.tree) (Joins c ∷ spell_part q.tree)));
  within = levels-push k s.tree q.tree s.within q.within;
  stops = (λ h. q.stops.0 (sym (lone-push s.tree q.tree) ∙ h), q.stops.1);
  forms_are = λ later x.
      all ∙ ap (λ hs. hs ++ f ∷ []) (s.forms_are later (extends_on names names' later ext x))
      ∙ ap (λ h. parts condition (number_of later) s.tree ++ h ∷ []) (q.form later x)
      ∙ sym (parts-push condition (number_of later) s.tree q.tree);
}

-- two parts or more are their connection
connected_parts : (c : Connective) (condition : Bool) (number : List ℕ → ℕ) (tree : Chain c) (f g : Form) (fs : List Form) →
    f ∷ g ∷ fs ≡ parts condition number tree → connected c (forms (f ∷ g ∷ fs)) ≡ meaning condition number tree
connected_parts c condition number (only p) f g fs e = cc
connected_parts c condition number (joined p ps) f g fs e = ap (λ hs. connected c (forms hs)) e

-- the whole chain, which no connective joins to another part
pub parsed_chain : (c : Connective) (condition : Bool) (k : ℕ) (tokens : List Token) (at place : ℕ) (old names : List (List ℕ)) (f g h : Form) (fs : List Form) →
    h ≡ connected c (forms (f ∷ g ∷ fs)) → ReadParts c condition k tokens at place old names (f ∷ g ∷ fs) →
    starts_joins c (terminals_from tokens place) ≡ false → ParsedChain c condition k (terminals_from tokens at) (terminals_from tokens place) old names h
parsed_chain c condition k tokens at place old names f g h fs made s stop = record {
  tree = s.tree;
  whole = s.whole;
  mentions = s.mentions;
  within = s.within;
  stops = (s.stops.0, s.stops.1, stop);
  form = λ later x. made ∙ connected_parts c condition (number_of later) s.tree f g fs (s.forms_are later x);
}

-- the next part fails
pub fails_after : (c : Connective) (condition : Bool) (k : ℕ) (tokens : List Token) (at place : ℕ) (old names : List (List ℕ)) (fs : List Form)
    (f : ExprFault) → ReadParts c condition k tokens at place old names fs → terminals_from tokens place ≡ Joins c ∷ terminals_from tokens (place + 1) →
    FailsPart c f k (terminals_from tokens (place + 1)) → FailsChain c f k (terminals_from tokens at)
fails_after c condition k tokens at place old names fs f s is h =
    subst (λ l. FailsChain c f k l) (sym (s.whole ∙ ap (λ l. spell s.tree ++ l) is)) (fails_next f k s.tree (terminals_from tokens (place + 1)) s.within h)

-- how far a chain's rule stands above a negation's
abbrev pub rank : Connective → ℕ
rank And = 0
rank Or = 2
