pub mod FieldsJoined
mod ItemsTold
mod ItemsWrong
mod NamesOpposed
mod SlotsTold
