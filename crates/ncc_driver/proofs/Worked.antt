-- Worked runs, by computation.
use Rattle.std.proofs.Common.{refl}
use Rattle.rand_core.specs.Pcg32Seed.{pcg32_seed}
use Rattle.rand_core.specs.Steps.{word_bytes, u32_at}
use Rattle.ncc_stream.specs.Stream.{run, going}
use Rattle.ncc_chunk.specs.Messages.{front_by, parts_by, messages_of, rest_of, is_too_long}
use Rattle.ncc_driver.specs.State.{words_of, new_core}
use Rattle.ncc_driver.specs.Session.{session, works_all, told_all, begins, on, takes}
use Rattle.ncc_driver.specs.Worked.{DelaysDouble, SpentAtThirtySeconds, NextWorkBeginsAnew, RoutersTakeTurns, OthersArePassedOver}
use Rattle.ncc_driver.specs.Worked.{HandshakeInPieces, AnotherVersion}

pub delays_double : DelaysDouble
unfolding session works_all told_all begins on new_core words_of pcg32_seed word_bytes u32_at
delays_double = refl

pub spent_at_thirty_seconds : SpentAtThirtySeconds
unfolding session works_all told_all begins on new_core words_of pcg32_seed word_bytes u32_at
spent_at_thirty_seconds = (refl, refl)

pub next_work_begins_anew : NextWorkBeginsAnew
unfolding session works_all told_all begins on new_core words_of pcg32_seed word_bytes u32_at
next_work_begins_anew = refl

pub routers_take_turns : RoutersTakeTurns
unfolding session works_all told_all begins on new_core words_of pcg32_seed word_bytes u32_at
routers_take_turns = refl

pub others_are_passed_over : OthersArePassedOver
unfolding session works_all told_all begins on new_core words_of pcg32_seed word_bytes u32_at
others_are_passed_over = refl

pub handshake_in_pieces : HandshakeInPieces
unfolding session works_all told_all begins on new_core going run takes messages_of is_too_long rest_of parts_by front_by
handshake_in_pieces = refl

pub another_version : AnotherVersion
unfolding session works_all told_all begins on new_core going run takes messages_of is_too_long rest_of parts_by front_by
another_version = refl
