-- The keyword of a head.

pub data Verb : Type 0 where
  Create : Verb
  Find : Verb
  Merge : Verb
