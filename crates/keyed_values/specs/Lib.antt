pub mod Keys
pub mod Vacancies
