-- What a proof in a crate above may cite of keys, commands and a reader's answers.
pub use Rattle.pv_keys.proofs.Answering.{some_answers}
pub use Rattle.pv_keys.proofs.Laws.{one_cut, new_answers, first_answers, join, part, one_answer, one_way}
pub use Rattle.pv_keys.proofs.Machine.{none_kept, one_spelling}
