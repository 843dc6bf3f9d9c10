mod Vacancies
