mod UsageLemmas
mod EachLemmas
mod KeptLemmas
mod LeavesLemmas
mod FaultLemmas
