-- what is answered is what the request's words say (answered, one-answer), refusal by refusal (first-refused); what is handed back (file-part, empty-part)
pub mod NoticeAnswers
-- notices in literal words
pub mod NoticesShown
