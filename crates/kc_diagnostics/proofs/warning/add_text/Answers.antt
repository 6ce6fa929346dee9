-- The parts of a text, one after another, are the text.
use Rattle.std.proofs.Common.{append-nil, append_assoc}
use Rattle.kc_diagnostics.proofs.warning.add_text.Goals as goal

pub returns-in-TextTarget-clause-whole : goal.returns-in-TextTarget-clause-whole
returns-in-TextTarget-clause-whole c = rw c.in-TextTarget.is (simp append_assoc c.add_parts-in-TextTarget.ensures.whole)

pub returns-in-DefaultNotMember-clause-whole : goal.returns-in-DefaultNotMember-clause-whole
returns-in-DefaultNotMember-clause-whole c = rw c.in-DefaultNotMember.is c.add_parts-in-DefaultNotMember.ensures.whole

pub returns-in-MemberTarget-clause-whole : goal.returns-in-MemberTarget-clause-whole
returns-in-MemberTarget-clause-whole c = rw c.in-MemberTarget.is (simp append_assoc c.add_parts-in-MemberTarget.ensures.whole)

pub returns-in-Selected-clause-whole : goal.returns-in-Selected-clause-whole
returns-in-Selected-clause-whole c = rw c.in-Selected.is (simp append_assoc (simp append-nil at c.add_parts-in-Selected.ensures.whole))

pub returns-in-UserOutside-clause-whole : goal.returns-in-UserOutside-clause-whole
returns-in-UserOutside-clause-whole c = rw c.in-UserOutside.is (simp append_assoc (simp append-nil at c.add_parts-in-UserOutside.ensures.whole))

pub returns-in-DefaultOutside-clause-whole : goal.returns-in-DefaultOutside-clause-whole
returns-in-DefaultOutside-clause-whole c = rw c.in-DefaultOutside.is (simp append_assoc c.add_parts-in-DefaultOutside.ensures.whole)

pub returns-in-LostWithoutPrompt-clause-whole : goal.returns-in-LostWithoutPrompt-clause-whole
returns-in-LostWithoutPrompt-clause-whole c =
    rw c.in-LostWithoutPrompt.is (simp append_assoc (simp append-nil at c.add_parts-in-LostWithoutPrompt.ensures.whole))
