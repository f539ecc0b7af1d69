-- The words that the demands on the put-back use. Assumes nothing.
use Rattle.std.specs.Prelude.{List, ℕ}
use Rattle.record.specs.Layout.{data_size, Entry}
use Rattle.asked.specs.Pass.{State}
use Rattle.put_back.specs.declared.PutBack.{PutBack}
use Rattle.history.specs.History as history
use Rattle.desk.specs.Answers.{put_back_of}

-- the put-back of what passes left: its answer, and the image afterwards
abbrev pub answer_back : State → PutBack
answer_back s = (put_back_of s.image s.journal s.used).answer

abbrev pub image_back : State → List ℕ
image_back s = (put_back_of s.image s.journal s.used).image

-- the entries in use, counted from the last; the image once the last m are put back; that each of them matched; that the next does not
abbrev pub from_last : State → ℕ → Entry
from_last s m = history.from_last data_size s.journal s.used m

abbrev pub last_back : State → ℕ → List ℕ
last_back s m = history.last_back data_size s.journal s.used m s.image

abbrev pub LastMatch : State → ℕ → Type 0
LastMatch s m = history.LastMatch data_size s.journal s.used m s.image

abbrev pub StopsAt : State → ℕ → Type 0
StopsAt s m = history.StopsAt data_size s.journal s.used m s.image
