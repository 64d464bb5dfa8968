mod EntryWordLaws
mod EntryLaws
mod TextLaws
mod HistoryLaws
