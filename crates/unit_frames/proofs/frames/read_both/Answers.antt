use Rattle.min_frame.proofs.Crossing.{frame_words_sync}
use denote.Param.Send.{sendable}
use Rattle.unit_frames.proofs.frames.read_both.Goals as goal

pub join_mut-requires-send-F : goal.join_mut-requires-send-F
join_mut-requires-send-F g c κs within = search (frame_words_sync, sendable) depth 20
