-- the output, the ready pair, the whole
pub mod PutLaws
pub mod WayLaws
pub mod PairLaws
pub mod EntryLaws
pub mod StandLaws
pub mod TableAwaits
