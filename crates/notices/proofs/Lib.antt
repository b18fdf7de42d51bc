-- a sound notice (right-length), the answer stage by stage (second-later), the part within its notice (part-fits), as the code cuts it (of-first, of-second)
pub mod NoticeLaws
